-- Rows and the replies that answered their pieces. Assumes nothing.
use Rattle.std.specs.Prelude.{ℕ, List, Option}
use Rattle.std.specs.List.{Contains}
use Rattle.octets.specs.Digits.{number_in}
use Rattle.layout.specs.Layouts.{told}
use Rattle.layout.specs.declared.field.Item.TheVariants.{TradeNumber}
use Rattle.forms.specs.Agreement.{Agree}
use Rattle.book.specs.Book.{Records}

-- a row is a piece answered: it agrees with a reply that an accepted filing gave in every item that both tell
abbrev pub Answered : Records → List (List ℕ) → List ℕ → Type 0
Answered s pieces row_of_day = (reply : List ℕ) × Contains pieces reply × Agree s.row row_of_day s.reply reply

-- the trade number of a reply
abbrev pub trade_number : Records → List ℕ → Option ℕ
trade_number s reply = number_in (told s.reply TradeNumber reply)
