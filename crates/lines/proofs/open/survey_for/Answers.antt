use Rattle.std.proofs.Common.{◌≡◌, ℕ, List, Some, None, sym, ap, ◌∙◌}
use Rattle.lots.specs.declared.units.Kind.{Kind}
use Rattle.lots.specs.declared.units.Kind.TheVariants.{BoardLot, OddLot}
use Rattle.ledger.specs.Rows.{held_for}
use Rattle.ledger.specs.declared.row.Entry.{Entry}
use Rattle.ledger.specs.declared.row.Held.{Held}
use Rattle.ledger.specs.declared.row.Pick.{Pick}
use Rattle.groups.specs.Groups.{totals_of}
use Rattle.groups.specs.declared.kept.Total.{Total}
use Rattle.judge.specs.declared.heading.Target.{Target}
use Rattle.lines.specs.Open.{every, standing_at, survey_at}
use Rattle.lines.specs.declared.open.Standing.{Standing}
use Rattle.lines.proofs.Surveys.{first, second, third, stands}
use Rattle.lines.proofs.open.survey_for.Goals as goal

-- the three are what the survey is made of, whatever the kind
made : (totals : List Total) (rows : List Entry) (t : Target) (type : ℕ) (kind : Kind) (s : Standing) (held of_type : Held) → t.kind ≡ kind →
    s ≡ standing_at totals rows t.place.number t.place.group → held ≡ held_for (every t.place.number kind None) rows → of_type ≡ held_for (every t.place.number t.kind (Some type)) rows →
    record { standing = s; held = held; of_type = of_type } ≡ survey_at totals rows t type
made totals rows t type kind s held of_type is stands_so held_so of_type_so =
    let all = held_so ∙ ap (λ k. held_for (every t.place.number k None) rows) (sym is) in
    λ i. record { standing = stands_so i; held = all i; of_type = of_type_so i }

pub returns-in-BoardLot : goal.returns-in-BoardLot
returns-in-BoardLot g c =
    let rows = g.L.Ledger.rows c.args.ledger.now in
    let at = c.args.target.place in
    let s = c.survey.result in
    let base = c.every.result in
    let typed : Pick = record { group = base.group; kind = base.kind; order_type = Some c.args.order_type } in
    let board = first rows s c.every-2.result c.every-3.result typed c.survey.ensures (every at.number BoardLot None) c.every-2.ensures in
    let odd = second rows s c.every-2.result c.every-3.result typed c.survey.ensures (every at.number OddLot None) c.every-3.ensures in
    made (totals_of c.args.table.now) rows c.args.target c.args.order_type BoardLot c.with.result s.0 s.2 c.in-BoardLot.is
    (c.with.ensures ∙ stands (totals_of c.args.table.now) rows at.number c.from.result at.group c.traded-traded.result s.0 s.1 c.from.ensures c.traded-traded.ensures board odd)
    board
    (third rows s c.every-2.result c.every-3.result typed c.survey.ensures (every at.number c.args.target.kind (Some c.args.order_type)) (ap (λ p. record { group = p.group; kind = p.kind; order_type = Some c.args.order_type }) c.every.ensures))

pub returns-in-OddLot : goal.returns-in-OddLot
returns-in-OddLot g c =
    let rows = g.L.Ledger.rows c.args.ledger.now in
    let at = c.args.target.place in
    let s = c.survey.result in
    let base = c.every.result in
    let typed : Pick = record { group = base.group; kind = base.kind; order_type = Some c.args.order_type } in
    let board = first rows s c.every-2.result c.every-3.result typed c.survey.ensures (every at.number BoardLot None) c.every-2.ensures in
    let odd = second rows s c.every-2.result c.every-3.result typed c.survey.ensures (every at.number OddLot None) c.every-3.ensures in
    made (totals_of c.args.table.now) rows c.args.target c.args.order_type OddLot c.with.result s.1 s.2 c.in-OddLot.is
    (c.with.ensures ∙ stands (totals_of c.args.table.now) rows at.number c.from.result at.group c.traded-traded.result s.0 s.1 c.from.ensures c.traded-traded.ensures board odd)
    odd
    (third rows s c.every-2.result c.every-3.result typed c.survey.ensures (every at.number c.args.target.kind (Some c.args.order_type)) (ap (λ p. record { group = p.group; kind = p.kind; order_type = Some c.args.order_type }) c.every.ensures))
