use Rattle.std.proofs.Common.{None, ◌∙◌}
use Rattle.lots.specs.declared.units.Kind.TheVariants.{BoardLot, OddLot}
use Rattle.groups.specs.Groups.{totals_of}
use Rattle.lines.specs.Open.{every}
use Rattle.lines.proofs.Surveys.{first, second, stands}
use Rattle.lines.proofs.open.standing_of.Goals as goal

pub returns : goal.returns
returns g c =
    let rows = g.L.Ledger.rows c.args.ledger.now in
    let at = c.args.place in
    let s = c.survey.result in
    let board = c.every-board_lots.result in
    let odd = c.every-odd_lots.result in
    c.with.ensures
    ∙ stands (totals_of c.args.table.now) rows at.number c.from.result at.group c.traded-traded.result s.0 s.1 c.from.ensures c.traded-traded.ensures
    (first rows s board odd odd c.survey.ensures (every at.number BoardLot None) c.every-board_lots.ensures)
    (second rows s board odd odd c.survey.ensures (every at.number OddLot None) c.every-odd_lots.ensures)
