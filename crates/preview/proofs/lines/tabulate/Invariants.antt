use Rattle.std.proofs.Common.{vec_items}
use Rattle.lots.specs.Pieces.{pending}
use Rattle.preview.proofs.Tables.{Sofar}
use Rattle.preview.proofs.lines.tabulate.Given as goal

abbrev pub invariant-loop-piece : goal.invariant-loop-piece
invariant-loop-piece l =
    (goal.iterator-loop-piece).can_next l.piece-iterator ×
    (goal.iterator-loop-piece).is_finite l.piece-iterator ×
    Sofar l.terms (vec_items l.lines) l.quantity l.shares l.amount (pending l.piece-iterator)
