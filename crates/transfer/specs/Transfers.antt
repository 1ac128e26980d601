-- Transfers: what comes of a line that one hands on, and what it counts. Assumes nothing.
use Rattle.std.specs.Prelude.{ℕ, ◌+◌, Bool, cond, ◌||◌, List, [], ◌∷◌, Result, nat_lt, nat_le, is_err}
use Rattle.judge.specs.declared.grounds.Ground.TheVariants.{Transfer}
use Rattle.book.specs.Book.{Book, Outcome, refused_alone}
use Rattle.book.specs.Calls.{Call, line as line_call}
use Rattle.book.specs.Lines.{line_outcome}
use Rattle.transfer.specs.declared.counts.Counts.{Counts}

-- no line
abbrev pub nought : Counts
nought = record { handed = 0; refused = 0 }

-- over 50 refused lines, or already 8,000 lines
abbrev pub spent : Counts → Bool
spent c = nat_lt 50 c.refused || nat_le 8000 c.handed

-- a line that a transfer hands on is a line of the day, but is refused where the transfer is spent
abbrev pub handed_outcome : Book → Counts → List ℕ → ℕ → ℕ → Outcome
handed_outcome b c line clock space = cond (spent c) (refused_alone b Transfer) (line_outcome b line clock space)

-- the calls that it makes of the day with its buffer: the line, or none
abbrev pub handed_on : Counts → List ℕ → ℕ → List ℕ → List Call
handed_on c line clock buffer = cond (spent c) [] (line_call line clock buffer ∷ [])

-- one line more, refused or not
abbrev pub counted : Counts → Bool → Counts
counted c refused = record { handed = c.handed + 1; refused = cond refused (c.refused + 1) c.refused }

-- a line that was handed on is counted, a refused one twice; one that was not is counted in neither
abbrev pub counts_after : Counts → Result ℕ ℕ → Counts
counts_after c answer = cond (spent c) c (counted c (is_err answer))
