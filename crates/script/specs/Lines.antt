-- The lines of a script. Assumes nothing.
use Rattle.std.specs.Prelude.{ℕ, ◌≡◌, ◌+◌, ◌-◌, ◌^◌, min, List, [], ◌∷◌, ◌==◌, Option, OnSome}
use Rattle.std.specs.Borrow.{Bor}
use Rattle.std.specs.Iterator.{YieldsFirstRef}
use Rattle.std.specs.List.{slice_split}

abbrev pub newline : ℕ
newline = 10

-- behind the last newline there is no further line that is empty
abbrev pub closed : List (List ℕ) → List (List ℕ)
closed [] = []
closed ([] ∷ []) = []
closed (line ∷ lines) = line ∷ closed lines

abbrev pub lines_of : List ℕ → List (List ℕ)
lines_of text = closed (slice_split (λ b. b == newline) text)

-- a script: the lines that are left, and the number of the line that came last, from 1
pub record Left : Type 0 where
  pub lines : List (List ℕ)
  pub number : ℕ

-- one more; a number of 64 bits stays the largest one
abbrev pub counted : ℕ → ℕ
counted n = min (n + 1) (2 ^ 64 - 1)

-- the next line comes off the front, and is counted; when none is left, there is none
abbrev pub NextLine : Left → Option (Bor (List ℕ)) → Left → Type 0
NextLine s r t = YieldsFirstRef (λ u. u.lines) s r t × OnSome r (t.number ≡ counted s.number)
