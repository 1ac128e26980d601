use Rattle.lines.proofs.Steps.{both_gone}
use Rattle.lines.proofs.taking.take_group.Goals as goal

pub returns-clause-list : goal.returns-clause-list
returns-clause-list g c =
    both_gone c.args.number _ _ (g.L.Ledger.rows c.args.ledger.now) _ _ c.from.ensures c.from-2.ensures c.remove.ensures.list c.remove-2.ensures.list
