use Rattle.std.proofs.Common.{◌*◌, ◌∙◌}
use Rattle.lots.specs.Units.{shares_to_unit}
use Rattle.book.proofs.TotalEntering.{kept}
use Rattle.book.proofs.totals.keep_total.Goals as goal

pub returns-clause-totals : goal.returns-clause-totals
returns-clause-totals c =
    let placed = c.place-group.ensures in
    kept c.args.table.now c.args.number c.args.kind c.args.terms _ _ _ _ _ _ _ c.requires.placed c.requires.known placed.number placed.groups placed.totals (c.shares_in.ensures ∙ (λ j. record { count = c.args.terms.quantity * shares_to_unit (c.lot.ensures j).kind (c.lot.ensures j).size })) c.accept.ensures.answer c.accept.ensures.totals
