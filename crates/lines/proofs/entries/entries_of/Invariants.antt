use Rattle.lots.specs.Pieces.{pending}
use Rattle.lines.proofs.Turns.{Sofar}
use Rattle.lines.proofs.entries.entries_of.Given as goal

abbrev pub invariant-loop-piece : goal.invariant-loop-piece
invariant-loop-piece l =
    (goal.iterator-loop-piece).can_next l.piece-iterator ×
    (goal.iterator-loop-piece).is_finite l.piece-iterator ×
    Sofar l.entering l.initial.at (pending l.initial.piece-iterator) l.entries.items l.at (pending l.piece-iterator)
