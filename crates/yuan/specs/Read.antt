-- Numbers as people write them. Assumes nothing.
use Rattle.std.specs.Prelude.{ℕ, ◌+◌, ◌-◌, ◌*◌, ◌%◌, ◌^◌, Bool, true, false, cond, ◌&&◌, ◌||◌, List, [], ◌∷◌, length, take, drop, Some, None, Option, ◌==◌, nat_lt, slice_index}
use Rattle.std.specs.List.{position_or_len}
use Rattle.std.specs.Option.{option_or}
use Rattle.octets.specs.Digits.{is_digit}
use Rattle.octets.specs.Options.{and_then}

abbrev pub comma : ℕ
comma = 44

-- the number n with one more character: a digit, or a comma where one is due
abbrev pub with_character : Bool → ℕ → ℕ → Option ℕ
with_character comma_due n c =
    cond comma_due
    (cond (c == comma) (Some n) None)
    (cond (is_digit c) (Some (n * 10 + (c - 48))) None)

-- What the characters read as, after the number n of those in front. Where commas part the digits,
-- one is due before each three characters from the right, and nowhere else. Without commas this is `number_after` of octets; the flag
-- spares a second reading.
abbrev pub digits : Bool → ℕ → List ℕ → Option ℕ
digits parted n [] = Some n
digits parted n (c ∷ cs) = and_then (with_character (parted && length cs % 4 == 3) n c) (λ m. digits parted m cs)

-- a whole number: 1 to 19 characters, digits parted by commas, none of which is in front, or digits alone
abbrev pub number : List ℕ → Option ℕ
number word =
    cond (length word == 0 || nat_lt 19 (length word)) None
    (option_or (cond (slice_index word 0 == comma) None (digits true 0 word)) (digits false 0 word))

abbrev pub point : ℕ
point = 46

-- the place of the first point, or the length where there is none
abbrev pub point_in : List ℕ → ℕ
point_in word = position_or_len (λ c. c == point) word

-- one to four digits behind the point, in ten-thousandths
abbrev pub decimals : List ℕ → Option ℕ
decimals part =
    cond (length part == 0 || nat_lt 4 (length part)) None
    (and_then (digits false 0 part) (λ n. Some (n * 10 ^ (4 - length part))))

abbrev pub most_yuan : ℕ
most_yuan = 999999999999

-- what stands behind the place of the point, in ten-thousandths; nothing there is 0
abbrev pub behind : List ℕ → ℕ → Option ℕ
behind word place = cond (place == length word) (Some 0) (decimals (drop (place + 1) word))

-- whole yuan that fit an amount's field, and ten-thousandths
abbrev pub together : ℕ → Option ℕ → Option ℕ
together whole part = cond (nat_lt most_yuan whole) None (and_then part (λ n. Some (whole * 10000 + n)))

-- an amount in yuan, with up to four decimals, in ten-thousandths of a yuan
abbrev pub yuan : List ℕ → Option ℕ
yuan word = and_then (number (take (point_in word) word)) (λ whole. together whole (behind word (point_in word)))
