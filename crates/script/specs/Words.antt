-- The words of a line, and what they stand for. Assumes nothing.
use Rattle.std.specs.Prelude.{ℕ, ◌+◌, ◌-◌, ◌*◌, ◌/◌, ◌%◌, ◌^◌, Bool, not, ◌&&◌, List, map, length, take, drop, unwrap_or, is_some, Some, None, Option, codes, if◌then◌else◌, ◌==◌, nat_le, nat_lt, slice_index}
use Rattle.std.specs.List.{list_all, slice_get, slice_split}
use Rattle.std.specs.Simd.{first_chunks}
use Rattle.std.specs.Str.{bytes_eq}
use Rattle.octets.specs.Digits.{is_digit, number_after}
use Rattle.octets.specs.Options.{and_then}
use Rattle.octets.specs.Splice.{blank}

-- words are parted by one blank
abbrev pub words_of : List ℕ → List (List ℕ)
words_of line = slice_split (λ b. b == blank) line

abbrev pub word_at : List ℕ → ℕ → Option (List ℕ)
word_at line k = slice_get (words_of line) k

-- a number word: decimal digits, below 2 ^ 64
abbrev pub fitting : ℕ → Option ℕ
fitting n = if nat_lt n (2 ^ 64) then Some n else None

abbrev pub number_in : List ℕ → Option ℕ
number_in word = if length word == 0 then None else and_then (number_after 0 word) fitting

-- hexadecimal digits, of either case
abbrev pub is_small_hex : ℕ → Bool
is_small_hex b = nat_le 97 b && nat_le b 102

abbrev pub is_capital_hex : ℕ → Bool
is_capital_hex b = nat_le 65 b && nat_le b 70

abbrev pub hex_digit : ℕ → Option ℕ
hex_digit b = if is_digit b then Some (b - 48) else (if is_small_hex b then Some (b - 87) else (if is_capital_hex b then Some (b - 55) else None))

abbrev pub is_hex : ℕ → Bool
is_hex b = is_some (hex_digit b)

abbrev pub hex_value : ℕ → ℕ
hex_value b = unwrap_or (hex_digit b) 0

-- the bytes that digits write, two for each
abbrev pub hex_bytes : List ℕ → List ℕ
hex_bytes digits = map (λ pair. hex_value (slice_index pair 0) * 16 + hex_value (slice_index pair 1)) (first_chunks 2 (length digits / 2) digits)

-- plain text is printable, and has `_` for a blank
abbrev pub is_printable : ℕ → Bool
is_printable b = nat_lt blank b && nat_le b 126

abbrev pub underscore : ℕ
underscore = 95

abbrev pub plain_bytes : List ℕ → List ℕ
plain_bytes word = map (λ b. if b == underscore then blank else b) word

-- a byte word: `x:` and an even number of hexadecimal digits, or plain text of at least one byte
abbrev pub is_marked : List ℕ → Bool
is_marked word = bytes_eq (take 2 word) (codes "x:")

abbrev pub is_byte_word : List ℕ → Bool
is_byte_word word =
    if is_marked word then length word % 2 == 0 && list_all is_hex (drop 2 word) else not (length word == 0) && list_all is_printable word

abbrev pub bytes_of : List ℕ → List ℕ
bytes_of word = if is_marked word then hex_bytes (drop 2 word) else plain_bytes word

abbrev pub bytes_in : List ℕ → Option (List ℕ)
bytes_in word = if is_byte_word word then Some (bytes_of word) else None
