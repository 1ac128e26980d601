use Rattle.std.proofs.Common.{◌≡◌, length, take}
use Rattle.std.specs.List.{All}
use Rattle.ledger.specs.Rows.{IsNarrow}
use Rattle.blocks.specs.Filled.{rows, room, lent}
use Rattle.inspection.proofs.saving.save.Given as goal

-- the blocks hold the rows so far, in the memory that was lent, and each row was an entry of the program
abbrev pub invariant-loop-e : goal.invariant-loop-e
invariant-loop-e g l =
    (goal.iterator-loop-e g).can_next l.e-iterator
    × (goal.iterator-loop-e g).is_finite l.e-iterator
    × (rows l.to ≡ take (length l.yielded) (g.L.Ledger.rows l.from))
    × (room l.to ≡ room l.initial.to)
    × (lent l.to ≡ lent l.initial.to)
    × All IsNarrow (rows l.to)
