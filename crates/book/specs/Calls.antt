-- Calls of a day, and runs of them. Assumes nothing.
use Rattle.std.specs.Prelude.{ℕ, List, [], ◌∷◌, length}
use Rattle.families.specs.Parts.{GroupParts}
use Rattle.judge.specs.Totals.{PlainParts, asked_plainly}
use Rattle.book.specs.Book.{Book}
use Rattle.book.specs.Lines.{line_outcome}
use Rattle.book.specs.Totals.{total_outcome, total_row_outcome}

-- A call with all that it is given: a total by its figures; a row of totals with the shares in a trading unit; a line with the clock
-- and the buffer for its replies; and the questions.
pub data Call : Type 0 where
  total : PlainParts → Call
  total_row : List ℕ → ℕ → Call
  line : List ℕ → ℕ → List ℕ → Call
  figures : GroupParts → Call
  verdict : Call
  row : ℕ → List ℕ → Call

-- the day that a call leaves
abbrev pub after : Book → Call → Book
after b (total t) = (total_outcome b (asked_plainly t)).book
after b (total_row bytes unit) = (total_row_outcome b bytes unit).book
after b (line bytes clock buffer) = (line_outcome b bytes clock (length buffer)).book
after b (figures g) = b
after b verdict = b
after b (row i buffer) = b

-- the day after several calls
abbrev pub run : Book → List Call → Book
run b [] = b
run b (c ∷ cs) = run (after b c) cs
