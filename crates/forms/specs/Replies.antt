-- What stands in the fields of replies and rows. Assumes nothing.
use Rattle.std.specs.Prelude.{ℕ, ◌+◌, ◌*◌, cond, List, [], ◌∷◌, Some, None, Option}
use Rattle.ledger.specs.declared.row.Entry.{Entry}
use Rattle.ledger.specs.declared.row.OrderNumber.{OrderNumber}
use Rattle.lots.specs.Units.{kind_number, ten_thousandths}
use Rattle.layout.specs.Values.{Content, text, packed_text, number, blanks}
use Rattle.layout.specs.Items.{same_item}
use Rattle.layout.specs.Layouts.{part_of}
use Rattle.layout.specs.declared.field.Field.{Field}
use Rattle.layout.specs.declared.field.Item.{Item}
use Rattle.layout.specs.declared.field.Item.TheVariants.{Broker, Account, Security, Side, Kind, Date, Order, NewBroker, NewAccount, Quantity, Amount, OrderType, Code, TradeNumber, Price, RunningQuantity, RunningAmount, TypeQuantity, TypeAmount, ErrorCode, Message, Filler}
use Rattle.forms.specs.declared.contents.Heading.{Heading}
use Rattle.forms.specs.declared.contents.Retained.{Retained}
use Rattle.forms.specs.declared.contents.Row.{Row}

-- cents, in a field of ten-thousandths
abbrev pub money : ℕ → Content
money cents = number (ten_thousandths (record { count = cents }))

-- an order number as a packed text
abbrev pub order_text : OrderNumber → ℕ
order_text o = o.first + 256 * o.rest

-- what a table gives an item, or else something other
abbrev pub given : List (Item × Content) → Item → Content → Content
given [] i other = other
given (g ∷ gs) i other = cond (same_item g.0 i) g.1 (given gs i other)

-- broker, account, security, side and date; blanks for other items
abbrev pub heading_says : Heading → Item → Content
heading_says h i = given (
    (Broker, packed_text h.broker) ∷
    (Account, number h.group.account) ∷
    (Security, packed_text h.group.security) ∷
    (Side, packed_text h.group.side) ∷
    (Date, number h.date) ∷ []) i blanks

-- A reply repeats the line's bytes at its fields' places, as far as these are not answered by a number. Message and filler
-- are blank.
abbrev pub repeated : List (Item × Content) → List ℕ → Field → Content
repeated answers line f =
    given answers f.item
    (given ((Message, blanks) ∷ (Filler, blanks) ∷ []) f.item
    (text (part_of f line)))

-- what an entry tells of an item, in the reply to its piece and in its row alike
abbrev pub entry_says : Entry → Item → Option Content
entry_says e Quantity = Some (number e.quantity)
entry_says e TradeNumber = Some (number e.trade_number)
entry_says e Price = Some (money e.price)
entry_says e RunningQuantity = Some (number e.running_quantity)
entry_says e RunningAmount = Some (money e.running_amount)
entry_says e TypeQuantity = Some (number e.type_quantity)
entry_says e TypeAmount = Some (money e.type_amount)
entry_says e _ = None

-- the reply to a piece that became an entry, by the filing's line
abbrev pub piece_says : List ℕ → Entry → ℕ → ℕ → Field → Content
piece_says line e amount code f = repeated (
    (Quantity, number e.quantity) ∷
    (Amount, money amount) ∷
    (TradeNumber, number e.trade_number) ∷
    (Price, money e.price) ∷
    (RunningQuantity, number e.running_quantity) ∷
    (RunningAmount, money e.running_amount) ∷
    (TypeQuantity, number e.type_quantity) ∷
    (TypeAmount, money e.type_amount) ∷
    (ErrorCode, number code) ∷ []) line f

-- the reply to a deletion or a refused line
abbrev pub repeat_says : List ℕ → ℕ → Field → Content
repeat_says line code f = repeated (
    (TradeNumber, number 0) ∷
    (Price, number 0) ∷
    (RunningQuantity, number 0) ∷
    (RunningAmount, number 0) ∷
    (TypeQuantity, number 0) ∷
    (TypeAmount, number 0) ∷
    (ErrorCode, number code) ∷ []) line f

-- the reply to a retention for one total; the order number is blank
abbrev pub retained_says : Retained → Item → Content
retained_says c i = given (
    (Kind, number (kind_number c.kind)) ∷
    (NewAccount, number c.heading.group.account) ∷
    (Quantity, number 0) ∷
    (Amount, number 0) ∷
    (OrderType, number 0) ∷
    (Code, number 1) ∷
    (TradeNumber, number 0) ∷
    (Price, number 0) ∷
    (RunningQuantity, number c.quantity) ∷
    (RunningAmount, money c.amount.count) ∷
    (TypeQuantity, number 0) ∷
    (TypeAmount, number 0) ∷
    (ErrorCode, number 0) ∷ []) i (heading_says c.heading i)

-- the row of an entry
abbrev pub row_says : Row → Item → Content
row_says c i = given (
    (Kind, number c.entry.kind) ∷
    (Order, packed_text (order_text c.entry.order)) ∷
    (TradeNumber, number c.entry.trade_number) ∷
    (NewBroker, packed_text c.entry.new_broker) ∷
    (NewAccount, number c.entry.new_account) ∷
    (Quantity, number c.entry.quantity) ∷
    (Price, money c.entry.price) ∷
    (OrderType, number c.entry.order_type) ∷
    (RunningQuantity, number c.entry.running_quantity) ∷
    (RunningAmount, money c.entry.running_amount) ∷
    (TypeQuantity, number c.entry.type_quantity) ∷
    (TypeAmount, money c.entry.type_amount) ∷ []) i (heading_says c.heading i)
