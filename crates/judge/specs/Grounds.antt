-- The grounds for refusal: their numbers, and the first that applies. Assumes nothing.
use Rattle.std.specs.Prelude.{ℕ, Bool, cond, List, [], ◌∷◌, Some, None, Option}
use Rattle.judge.specs.declared.grounds.Ground.{Ground}
use Rattle.judge.specs.declared.grounds.Ground.TheVariants.{LineLength, ReplyRoom, DayFigures, Code, Broker, Account, Security, Side, Kind, Date, Clock, Sealed, NoTotal, Order, NewAccount, OrderType, Quantity, Amount, Price, OpenShares, OpenAmount, TradeNumber, Places, Replies, NoRow, RetentionStem, NothingUnfinished, TotalFigures, TotalGiven, GroupFigures, GroupCount, RowIndex, Transfer}

abbrev pub ground_number : Ground → ℕ
ground_number LineLength = 1
ground_number ReplyRoom = 2
ground_number DayFigures = 3
ground_number Code = 4
ground_number Broker = 5
ground_number Account = 6
ground_number Security = 7
ground_number Side = 8
ground_number Kind = 9
ground_number Date = 10
ground_number Clock = 11
ground_number Sealed = 12
ground_number NoTotal = 13
ground_number Order = 14
ground_number NewAccount = 15
ground_number OrderType = 16
ground_number Quantity = 17
ground_number Amount = 18
ground_number Price = 19
ground_number OpenShares = 20
ground_number OpenAmount = 21
ground_number TradeNumber = 22
ground_number Places = 23
ground_number Replies = 24
ground_number NoRow = 25
ground_number RetentionStem = 26
ground_number NothingUnfinished = 27
ground_number TotalFigures = 28
ground_number TotalGiven = 29
ground_number GroupFigures = 30
ground_number GroupCount = 31
ground_number RowIndex = 32
ground_number Transfer = 33

-- the first ground of a list whose test holds
abbrev pub first_of : List (Ground × Bool) → Option Ground
first_of [] = None
first_of (g ∷ gs) = cond g.1 (Some g.0) (first_of gs)
