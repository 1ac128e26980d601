-- Numbers in fields of digits. Assumes nothing.
use Rattle.std.specs.Prelude.{ℕ, zero, suc, ◌+◌, ◌-◌, ◌*◌, ◌/◌, ◌%◌, ◌^◌, Bool, cond, ◌&&◌, List, [], ◌∷◌, length, Some, None, Option, nat_le, nat_lt}

-- the last w decimal digits of n, the highest first
abbrev pub digits : ℕ → ℕ → List ℕ
digits zero n = []
digits (suc w) n = (48 + n / 10 ^ w % 10) ∷ digits w n

abbrev pub is_digit : ℕ → Bool
is_digit b = nat_le 48 b && nat_le b 57

-- the number that digits write after those that gave n
abbrev pub number_after : ℕ → List ℕ → Option ℕ
number_after n [] = Some n
number_after n (b ∷ bs) = cond (is_digit b) (number_after (n * 10 + (b - 48)) bs) None

-- the number in a field of at most 19 digits
abbrev pub number_in : List ℕ → Option ℕ
number_in bs = cond (nat_lt 19 (length bs)) None (number_after 0 bs)
