-- The families: what each allows, and its records. Assumes nothing.
use Rattle.std.specs.Prelude.{ℕ, ◌+◌, Bool, true, false, not, ◌&&◌, ◌||◌, List, [], ◌∷◌, is_some, Some, None, Option, ◌==◌, nat_le}
use Rattle.layout.specs.Items.{same_item}
use Rattle.layout.specs.Layouts.{tiles, field_of}
use Rattle.layout.specs.declared.field.Field.{Field}
use Rattle.layout.specs.declared.field.Item.{Item}
use Rattle.layout.specs.declared.field.Item.TheVariants.{NewBroker, Quantity, Amount, OrderType, Code, TradeNumber, Price, RunningQuantity, RunningAmount, TypeQuantity, TypeAmount, ErrorCode, Message, Filler}
use Rattle.families.specs.Tables.{plan_line, plan_reply, plan_row, omnibus_line, omnibus_reply, omnibus_row}
use Rattle.families.specs.Lines.{no_broker}
use Rattle.families.specs.declared.accounts.Stem.TheVariants.{PlanDomestic, PlanForeign, OmnibusDomestic, OmnibusForeign}
use Rattle.families.specs.declared.family.Form.{Form}
use Rattle.families.specs.declared.family.Form.TheVariants.{Line, Reply, Row}
use Rattle.families.specs.declared.family.Rules.{Rules}
use Rattle.families.specs.declared.family.PlanLine.{PlanLine}
use Rattle.families.specs.declared.family.OmnibusLine.{OmnibusLine}
use Rattle.families.specs.declared.figures.Filed.{Filed}

-- savings plans buy, 1 to 499 trading units a filing, for accounts of any broker of the group
abbrev pub plan_rules : Rules
plan_rules = record {
  domestic = PlanDomestic;
  foreign = PlanForeign;
  sells = false;
  most_units = record { count = 499 };
  cuts = false;
  order_type = false;
  new_broker = true;
  retains = false;
}

-- omnibus accounts buy and sell, 1 to 10,000 trading units a filing, which come back in pieces, by order type
abbrev pub omnibus_rules : Rules
omnibus_rules = record {
  domestic = OmnibusDomestic;
  foreign = OmnibusForeign;
  sells = true;
  most_units = record { count = 10000 };
  cuts = true;
  order_type = true;
  new_broker = false;
  retains = true;
}

abbrev pub plan_layout : Form → List Field
plan_layout Line = plan_line
plan_layout Reply = plan_reply
plan_layout Row = plan_row

abbrev pub omnibus_layout : Form → List Field
omnibus_layout Line = omnibus_line
omnibus_layout Reply = omnibus_reply
omnibus_layout Row = omnibus_row

-- a record's length, by those of a line, a reply and a row
abbrev pub length_in : ℕ → ℕ → ℕ → Form → ℕ
length_in line reply row Line = line
length_in line reply row Reply = reply
length_in line reply row Row = row

abbrev pub plan_length : Form → ℕ
plan_length = length_in 200 200 150

abbrev pub omnibus_length : Form → ℕ
omnibus_length = length_in 200 200 150

-- the fields of each record stand one behind another and fill it
abbrev pub tiled : (Form → List Field) → (Form → ℕ) → Bool
tiled layout extent = tiles 1 (layout Line) (extent Line + 1) && (tiles 1 (layout Reply) (extent Reply + 1) && tiles 1 (layout Row) (extent Row + 1))

-- What a row shows of an entry is what the reply to its piece shows: each item in as many bytes and, where the reply repeats
-- the line, from the line's own place. A new broker or an order type is shown only where the family's lines have one, and
-- an amount, a code or an error never. `entry_says` of forms, which stands on this crate, tells of the same items.
abbrev pub answered : Item → Bool
answered Quantity = true
answered TradeNumber = true
answered Price = true
answered RunningQuantity = true
answered RunningAmount = true
answered TypeQuantity = true
answered TypeAmount = true
answered _ = false

abbrev pub same_place : Option Field → Field → Bool
same_place None g = false
same_place (Some f) g = f.first == g.first && f.width == g.width

abbrev pub shown_alike : List Field → List Field → Field → Bool
shown_alike line reply f =
    elim (field_of f.item reply) [
      | Some g ↦ f.width == g.width && (answered f.item || same_place (field_of f.item line) g)
      | None ↦ true
    ]

abbrev pub all_alike : List Field → List Field → List Field → Bool
all_alike line reply [] = true
all_alike line reply (f ∷ fs) = (same_item f.item Filler || shown_alike line reply f) && all_alike line reply fs

abbrev pub tells : Item → List Field → Bool
tells i fs = is_some (field_of i fs)

-- no field tells any of these items
abbrev pub tells_none : List Item → List Field → Bool
tells_none [] fs = true
tells_none (i ∷ is) fs = not (tells i fs) && tells_none is fs

-- trade numbers of eight digits fit their field in a reply
abbrev pub numbers_fit : List Field → Bool
numbers_fit reply = elim (field_of TradeNumber reply) [ Some f ↦ nat_le 8 f.width && nat_le f.width 19 | None ↦ false ]

abbrev pub consistent : Rules → (Form → List Field) → Bool
consistent r layout =
    all_alike (layout Line) (layout Reply) (layout Row) &&
    (tells_none (Amount ∷ Code ∷ ErrorCode ∷ Message ∷ []) (layout Row) &&
    ((not (tells NewBroker (layout Row)) || r.new_broker) &&
    ((not (tells OrderType (layout Row)) || r.order_type) &&
    numbers_fit (layout Reply))))

abbrev pub plan_figures : PlanLine → Filed
plan_figures l = record { common = l.common; new_broker = l.new_broker; order_type = Some 0 }

abbrev pub omnibus_figures : OmnibusLine → Filed
omnibus_figures l = record { common = l.common; new_broker = Some no_broker; order_type = l.order_type }
