-- The items that records tell. Assumes nothing.
use Rattle.std.specs.Prelude.{ℕ, Bool, ◌==◌}
use Rattle.layout.specs.declared.field.Item.{Item}
use Rattle.layout.specs.declared.field.Item.TheVariants.{Broker, Account, Security, Side, Kind, Date, Order, NewBroker, NewAccount, Quantity, Amount, OrderType, Code, TradeNumber, Price, RunningQuantity, RunningAmount, TypeQuantity, TypeAmount, ErrorCode, Message, Filler}

abbrev pub item_number : Item → ℕ
item_number Broker = 0
item_number Account = 1
item_number Security = 2
item_number Side = 3
item_number Kind = 4
item_number Date = 5
item_number Order = 6
item_number NewBroker = 7
item_number NewAccount = 8
item_number Quantity = 9
item_number Amount = 10
item_number OrderType = 11
item_number Code = 12
item_number TradeNumber = 13
item_number Price = 14
item_number RunningQuantity = 15
item_number RunningAmount = 16
item_number TypeQuantity = 17
item_number TypeAmount = 18
item_number ErrorCode = 19
item_number Message = 20
item_number Filler = 21

abbrev pub same_item : Item → Item → Bool
same_item a b = item_number a == item_number b
