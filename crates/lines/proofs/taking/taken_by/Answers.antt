use Rattle.std.proofs.Common.{◌≤◌, false, length, sym, ◌∙◌, ⊎_elim, arith, rules, tests}
use Rattle.std.proofs.lemmas.Bool.{cases_lt}
use Rattle.std.proofs.lemmas.List.{get_or_past, length-take-le}
use Rattle.groups.specs.Groups.{groups_of, totals_of}
use Rattle.lines.specs.Taking.{taken_at}
use Rattle.lines.proofs.Flags.{each-flag}
use Rattle.lines.proofs.Steps.{none_past}
use Rattle.lines.proofs.taking.taken_by.Goals as goal

pub returns : goal.returns
returns g c =
    let t = c.args.table.now in
    let test = taken_at (groups_of t) (totals_of t) (g.L.Ledger.rows c.args.ledger.now) c.args.account in
    let made = c.from_fn.ensures.items in
    let few : length (groups_of t) ≤ 64 = omega (arith, length-take-le t.count t.groups, t.few, t.places) in
    λ i n. ⊎_elim
    (λ h. each-flag _ test _ c.from_fn.result 0 64 (λ k y q s. search (rules, tests)) made.each n n h (omega arith))
    (λ h. get_or_past c.from_fn.result n false (omega (arith, h, made.long)) ∙ sym (none_past (groups_of t) (totals_of t) (g.L.Ledger.rows c.args.ledger.now) c.args.account n (omega (arith, few, h))))
    (cases_lt n 64)
    i
