-- What a filing's line says, in plain numbers. Assumes nothing.
use Rattle.std.specs.Prelude.{ℕ, ◌-◌, Bool, cond, ◌&&◌, List, length, take, drop, Some, None, Option, ◌==◌, nat_le, slice_index, codes}
use Rattle.ledger.specs.declared.row.OrderNumber.{OrderNumber}
use Rattle.octets.specs.Digits.{number_in}
use Rattle.octets.specs.Texts.{is_code, packed}
use Rattle.families.specs.Accounts.{investor_of}
use Rattle.families.specs.Parts.{FilingParts}
use Rattle.families.specs.declared.family.Rules.{Rules}
use Rattle.families.specs.declared.figures.Common.{Common}
use Rattle.families.specs.declared.figures.Filed.{Filed}

-- an order number: five letters or digits, the first by itself and the other four packed
abbrev pub order_of : List ℕ → Option OrderNumber
order_of bs = cond (is_code 5 bs) (Some (record { first = slice_index bs 0; rest = packed (take 4 (drop 1 bs)) })) None

-- a broker: four letters or digits, packed
abbrev pub broker_of : List ℕ → Option ℕ
broker_of bs = cond (is_code 4 bs) (Some (packed bs)) None

-- an order type: one digit, 0 to 6
abbrev pub type_of : List ℕ → Option ℕ
type_of bs = cond (length bs == 1 && (nat_le 48 (slice_index bs 0) && nat_le (slice_index bs 0) 54)) (Some (slice_index bs 0 - 48)) None

-- what lines of both families say
abbrev pub common_in : FilingParts → Common
common_in p = record {
  order = order_of p.order;
  investor = investor_of p.new_account;
  quantity = number_in p.quantity;
  amount = number_in p.amount;
}

-- four blanks
abbrev pub no_broker : ℕ
no_broker = packed (codes "    ")

-- a family without new brokers has blanks, one without order types 0
abbrev pub new_broker_in : Bool → List ℕ → Option ℕ
new_broker_in has bs = cond has (broker_of bs) (Some no_broker)

abbrev pub order_type_in : Bool → List ℕ → Option ℕ
order_type_in has bs = cond has (type_of bs) (Some 0)

abbrev pub filed_in : Rules → FilingParts → Filed
filed_in r p = record {
  common = common_in p;
  new_broker = new_broker_in r.new_broker p.new_broker;
  order_type = order_type_in r.order_type p.order_type;
}
