-- The words of a ledger's rows. Assumes nothing.
use Rattle.std.specs.Prelude.{ℕ, ◌+◌, ◌*◌, ◌^◌, ◌<◌, Bool, true, cond, not, ◌&&◌, List, [], ◌∷◌, ◌++◌, Some, None, sum_by, Option, ◌==◌}
use Rattle.std.specs.List.{list_any}
use Rattle.ledger.specs.declared.row.Entry.{Entry}
use Rattle.ledger.specs.declared.row.Held.{Held}
use Rattle.ledger.specs.declared.row.OrderNumber.{OrderNumber}
use Rattle.ledger.specs.declared.row.Pick.{Pick}

-- an entry whose numbers are no wider than their bytes, as those of every program are
pub record IsNarrow (e : Entry) : Type 0 where
  pub group : e.group < 256
  pub kind : e.kind < 256
  pub order-type : e.order_type < 256
  pub order-first : e.order.first < 256
  pub order-rest : e.order.rest < 2 ^ 32
  pub broker : e.new_broker < 2 ^ 32
  pub account : e.new_account < 2 ^ 32
  pub quantity : e.quantity < 2 ^ 32
  pub price : e.price < 2 ^ 32
  pub trade : e.trade_number < 2 ^ 32
  pub running-quantity : e.running_quantity < 2 ^ 32
  pub running-amount : e.running_amount < 2 ^ 64
  pub type-quantity : e.type_quantity < 2 ^ 32
  pub type-amount : e.type_amount < 2 ^ 64

-- the rows with one more, where it was taken
abbrev pub appended : Bool → List Entry → Entry → List Entry
appended taken rows e = cond taken (rows ++ e ∷ []) rows

-- the entries of a group and kind; and, where one is given, of an order type
abbrev pub of_kind : ℕ → ℕ → Entry → Bool
of_kind g k e = e.group == g && e.kind == k

abbrev pub of_type : Option ℕ → Entry → Bool
of_type None e = true
of_type (Some t) e = e.order_type == t

abbrev pub picked : ℕ → ℕ → Option ℕ → Entry → Bool
picked g k t e = of_kind g k e && of_type t e

-- the entries that removing a group and kind leaves
abbrev pub others : ℕ → ℕ → Entry → Bool
others g k e = not (of_kind g k e)

-- an order number stands among the rows
abbrev pub of_order : OrderNumber → Entry → Bool
of_order o e = e.order.first == o.first && e.order.rest == o.rest

abbrev pub has_order : OrderNumber → List Entry → Bool
has_order o rows = list_any (of_order o) rows

-- what the rows that a test picks hold: the sum of their quantities, and of quantity times price
abbrev pub quantity_of : (Entry → Bool) → List Entry → ℕ
quantity_of p rows = sum_by (λ e. cond (p e) e.quantity 0) rows

abbrev pub worth_of : (Entry → Bool) → List Entry → ℕ
worth_of p rows = sum_by (λ e. cond (p e) (e.quantity * e.price) 0) rows

abbrev pub held_by : (Entry → Bool) → List Entry → Held
held_by p rows = record { quantity = quantity_of p rows; amount = worth_of p rows }

abbrev pub held_for : Pick → List Entry → Held
held_for pick rows = held_by (picked pick.group pick.kind pick.order_type) rows

-- what is held with one entry more
abbrev pub held_with : Held → Entry → Held
held_with h e = record { quantity = h.quantity + e.quantity; amount = h.amount + e.quantity * e.price }
