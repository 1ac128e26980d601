-- What two transfers on one record count, one after the other. Assumes nothing.
use Rattle.std.specs.Prelude.{ℕ, List, length}
use Rattle.octets.specs.Splice.{spliced}
use Rattle.book.specs.Book.{Book, Outcome}
use Rattle.transfer.specs.Transfers.{nought, handed_outcome, counts_after}
use Rattle.transfer.specs.declared.counts.Counts.{Counts}

-- what comes of a line that each of two transfers hands on: of the first, and then of the second, which counts anew
abbrev pub first_outcome : Book → List ℕ → ℕ → ℕ → Outcome
first_outcome b line clock space = handed_outcome b nought line clock space

abbrev pub second_outcome : Book → List ℕ → ℕ → ℕ → Outcome
second_outcome b line clock space = handed_outcome (first_outcome b line clock space).book nought line clock space

-- what the second has counted
abbrev pub second_counted : Book → List ℕ → ℕ → ℕ → Counts
second_counted b line clock space = counts_after nought (second_outcome b line clock space).answer

-- the buffer with the replies of both
abbrev pub written_twice : Book → List ℕ → ℕ → List ℕ → List ℕ
written_twice b line clock buffer =
    spliced (spliced buffer 0 (first_outcome b line clock (length buffer)).replies) 0 (second_outcome b line clock (length buffer)).replies
