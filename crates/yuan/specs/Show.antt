-- Numbers and amounts as they are shown. Assumes nothing.
use Rattle.std.specs.Prelude.{ℕ, ◌/◌, ◌%◌, Bool, cond, ◌&&◌, List, [], ◌∷◌, ◌++◌, length, decimal, ◌==◌, nat_lt}
use Rattle.yuan.specs.Read.{comma, point}

-- a comma stands behind a digit that three, six, nine and so on digits follow
abbrev pub comma_follows : ℕ → Bool
comma_follows after = nat_lt 0 after && after % 3 == 0

-- a digit that some digits follow, and the comma behind it, if there is one
abbrev pub with_comma : ℕ → ℕ → List ℕ
with_comma c after = c ∷ cond (comma_follows after) (comma ∷ []) []

-- digits with a comma before each three from the right
abbrev pub parted : List ℕ → List ℕ
parted [] = []
parted (c ∷ cs) = with_comma c (length cs) ++ parted cs

-- a number, as 1,234,567
abbrev pub grouped : ℕ → List ℕ
grouped n = parted (decimal n)

-- an amount of cents in yuan with two decimals, as 100,010.00
abbrev pub yuan_text : ℕ → List ℕ
yuan_text cents = grouped (cents / 100) ++ (point ∷ [] ++ (decimal (cents % 100 / 10) ++ decimal (cents % 10)))
