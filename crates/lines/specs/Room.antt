-- Whether there is room for a filing. Assumes nothing.
use Rattle.std.specs.Prelude.{ℕ, ◌+◌, ◌*◌, Bool, true, List, [], ◌∷◌, Some, None, Option, nat_lt}
use Rattle.ledger.specs.Rows.{has_order}
use Rattle.ledger.specs.declared.row.Entry.{Entry}
use Rattle.ledger.specs.declared.row.OrderNumber.{OrderNumber}
use Rattle.judge.specs.Heading.{last_trade_number}
use Rattle.judge.specs.Wanted.{shares_wanted, count_of}
use Rattle.judge.specs.declared.grounds.Ground.{Ground}
use Rattle.judge.specs.declared.grounds.Ground.TheVariants.{Order, OpenShares, OpenAmount, TradeNumber, Places, Replies}
use Rattle.judge.specs.declared.terms.Wanted.{Wanted}
use Rattle.lines.specs.declared.open.Standing.{Standing}

-- an order number that is malformed, or stands in the ledger
abbrev pub used_order : List Entry → Option OrderNumber → Bool
used_order rows None = true
used_order rows (Some o) = has_order o rows

-- the ground on the order number
abbrev pub order_grounds : List Entry → Option OrderNumber → List (Ground × Bool)
order_grounds rows o = (Order, used_order rows o) ∷ []

-- the grounds on room: what is open, trade numbers, places of the ledger, replies in the buffer
abbrev pub room_grounds : ℕ → ℕ → Standing → Wanted → ℕ → ℕ → ℕ → List (Ground × Bool)
room_grounds used capacity s w next room each =
    (OpenShares, nat_lt s.open_shares.count (shares_wanted w)) ∷
    (OpenAmount, nat_lt s.open_amount.count w.amount.count) ∷
    (TradeNumber, nat_lt (last_trade_number + 1) (next + count_of w)) ∷
    (Places, nat_lt capacity (used + count_of w)) ∷
    (Replies, nat_lt room (count_of w * each)) ∷ []
