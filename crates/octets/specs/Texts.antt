-- Texts of capital letters and digits, and texts packed into numbers. Assumes nothing.
use Rattle.std.specs.Prelude.{ℕ, zero, suc, ◌+◌, ◌*◌, ◌/◌, ◌%◌, Bool, ◌&&◌, ◌||◌, List, [], ◌∷◌, length, drop, ◌==◌, nat_le, nat_lt}
use Rattle.std.specs.List.{list_all, prefix_len}
use Rattle.octets.specs.Splice.{blank}

-- A–Z or 0–9
abbrev pub letter_or_digit : ℕ → Bool
letter_or_digit b = (nat_le 65 b && nat_le b 90) || (nat_le 48 b && nat_le b 57)

abbrev pub is_blank : ℕ → Bool
is_blank b = b == blank

-- a code of w letters or digits
abbrev pub is_code : ℕ → List ℕ → Bool
is_code w bs = length bs == w && list_all letter_or_digit bs

-- one to six letters or digits, then blanks
abbrev pub is_security : List ℕ → Bool
is_security bs = length bs == 6 && (nat_lt 0 (prefix_len letter_or_digit bs) && list_all is_blank (drop (prefix_len letter_or_digit bs) bs))

-- a text as a number, the first byte the lowest
abbrev pub packed : List ℕ → ℕ
packed [] = 0
packed (b ∷ bs) = packed bs * 256 + b

-- the w lowest bytes of a number, the lowest first
abbrev pub unpacked : ℕ → ℕ → List ℕ
unpacked zero n = []
unpacked (suc w) n = (n % 256) ∷ unpacked w (n / 256)
