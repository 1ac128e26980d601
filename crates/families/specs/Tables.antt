-- The layouts of the exchange's records: each field by its item, first byte and width. Assumes nothing.
use Rattle.std.specs.Prelude.{ℕ, List, [], ◌∷◌, ◌++◌}
use Rattle.layout.specs.declared.field.Field.{Field}
use Rattle.layout.specs.declared.field.Item.{Item}
use Rattle.layout.specs.declared.field.Item.TheVariants.{Broker, Account, Security, Side, Kind, Date, Order, NewBroker, NewAccount, Quantity, Amount, OrderType, Code, TradeNumber, Price, RunningQuantity, RunningAmount, TypeQuantity, TypeAmount, ErrorCode, Message, Filler}

abbrev pub at : Item → ℕ → ℕ → Field
at i first width = record { item = i; first = first; width = width }

-- what names a group, its kind and its day: bytes 1 to 27 of every record
abbrev pub named : List Field
named = at Broker 1 4 ∷ at Account 5 7 ∷ at Security 12 6 ∷ at Side 18 1 ∷ at Kind 19 1 ∷ at Date 20 8 ∷ []

-- bytes 1 to 32 of lines, replies and rows
abbrev pub head : List Field
head = named ++ (at Order 28 5 ∷ [])

-- the plan family, CAJ: what is filed, up to the code
abbrev pub plan_filed : List Field
plan_filed =
    head ++
    (at NewBroker 33 4 ∷
    at NewAccount 37 7 ∷
    at Quantity 44 8 ∷
    at Amount 52 16 ∷
    at Code 68 1 ∷ [])

-- a line of the plan family, CAJ
abbrev pub plan_line : List Field
plan_line = plan_filed ++ (at Filler 69 132 ∷ [])

-- a reply of the plan family, CAJ
abbrev pub plan_reply : List Field
plan_reply =
    plan_filed ++
    (at TradeNumber 69 8 ∷
    at Price 77 9 ∷
    at RunningQuantity 86 8 ∷
    at RunningAmount 94 16 ∷
    at ErrorCode 110 2 ∷
    at Message 112 60 ∷
    at Filler 172 29 ∷ [])

-- a row of the plan family, CAK
abbrev pub plan_row : List Field
plan_row =
    head ++
    (at TradeNumber 33 8 ∷
    at NewBroker 41 4 ∷
    at NewAccount 45 7 ∷
    at Quantity 52 8 ∷
    at Price 60 9 ∷
    at RunningQuantity 69 8 ∷
    at RunningAmount 77 16 ∷
    at Filler 93 58 ∷ [])

-- the omnibus family, C62: what is filed, up to the code
abbrev pub omnibus_filed : List Field
omnibus_filed =
    head ++
    (at NewAccount 33 7 ∷
    at Quantity 40 8 ∷
    at Amount 48 16 ∷
    at OrderType 64 1 ∷
    at Code 65 1 ∷ [])

-- a line of the omnibus family, C62
abbrev pub omnibus_line : List Field
omnibus_line = omnibus_filed ++ (at Filler 66 135 ∷ [])

-- a reply of the omnibus family, C62
abbrev pub omnibus_reply : List Field
omnibus_reply =
    omnibus_filed ++
    (at TradeNumber 66 8 ∷
    at Price 74 9 ∷
    at RunningQuantity 83 8 ∷
    at RunningAmount 91 16 ∷
    at TypeQuantity 107 8 ∷
    at TypeAmount 115 16 ∷
    at ErrorCode 131 2 ∷
    at Message 133 60 ∷
    at Filler 193 8 ∷ [])

-- a row of the omnibus family, C63
abbrev pub omnibus_row : List Field
omnibus_row =
    head ++
    (at TradeNumber 33 8 ∷
    at NewAccount 41 7 ∷
    at Quantity 48 8 ∷
    at Price 56 9 ∷
    at OrderType 65 1 ∷
    at RunningQuantity 66 8 ∷
    at RunningAmount 74 16 ∷
    at TypeQuantity 90 8 ∷
    at TypeAmount 98 16 ∷
    at Filler 114 37 ∷ [])

-- a row of totals, CAI
abbrev pub total_row : List Field
total_row =
    named ++
    (at Quantity 28 8 ∷
    at Amount 36 16 ∷
    at Filler 52 29 ∷ [])
