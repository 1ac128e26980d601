-- What a buffer holds once bytes are written into it. Assumes nothing.
use Rattle.std.specs.Prelude.{ℕ, ◌+◌, List, ◌++◌, length, take, drop}

-- the buffer d with the bytes s from `at` on, and every other byte as it was
abbrev pub spliced : List ℕ → ℕ → List ℕ → List ℕ
spliced d at s = take at d ++ (s ++ drop (at + length s) d)

abbrev pub blank : ℕ
blank = 32
