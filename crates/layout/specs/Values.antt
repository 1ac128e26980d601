-- What stands in a field, and its bytes. Assumes nothing.
use Rattle.std.specs.Prelude.{ℕ, ◌-◌, List, ◌++◌, length, take, replicate}
use Rattle.octets.specs.Splice.{blank}
use Rattle.octets.specs.Digits.{digits}
use Rattle.octets.specs.Texts.{unpacked}
use Rattle.layout.specs.declared.contents.Value.{Value}
use Rattle.layout.specs.declared.contents.Value.TheVariants.{Text, Packed, Number, Blank}

-- bytes as they are, a packed text, a number in digits, or blanks
pub data Content : Type 0 where
  text : List ℕ → Content
  packed_text : ℕ → Content
  number : ℕ → Content
  blanks : Content

-- what a value of the code stands for
abbrev pub content_by : Value → Content
content_by (Text bs) = text bs.now
content_by (Packed n) = packed_text n
content_by (Number n) = number n
content_by Blank = blanks

-- a text cut, or followed by blanks, to w bytes
abbrev pub fitted : ℕ → List ℕ → List ℕ
fitted w bs = take w bs ++ replicate (w - length bs) blank

-- the w bytes of a field
abbrev pub bytes_in : ℕ → Content → List ℕ
bytes_in w (text bs) = fitted w bs
bytes_in w (packed_text n) = unpacked w n
bytes_in w (number n) = digits w n
bytes_in w blanks = replicate w blank
