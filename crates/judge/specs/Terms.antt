-- The grounds on what a filing asks for: to whom, how many, for how much. Assumes nothing.
use Rattle.std.specs.Prelude.{ℕ, Bool, cond, not, ◌&&◌, List, [], ◌∷◌, is_some, unwrap_or, Some, None, Option, ◌==◌}
use Rattle.std.specs.Option.{option_map}
use Rattle.octets.specs.Options.{and_then}
use Rattle.lots.specs.Limits.{quantity_fits, amount_fits, price_fits}
use Rattle.lots.specs.Split.{runs}
use Rattle.lots.specs.Units.{kind_number, shares_to_unit, whole_cents}
use Rattle.lots.specs.declared.units.Cents.{Cents}
use Rattle.lots.specs.declared.units.Kind.TheVariants.{BoardLot}
use Rattle.families.specs.Accounts.{same_stem, holds}
use Rattle.families.specs.declared.family.Rules.{Rules}
use Rattle.families.specs.declared.figures.Filed.{Filed}
use Rattle.judge.specs.Heading.{lot_of}
use Rattle.judge.specs.declared.grounds.Ground.{Ground}
use Rattle.judge.specs.declared.grounds.Ground.TheVariants.{NewAccount, OrderType, Quantity, Amount, Price}
use Rattle.judge.specs.declared.heading.Target.{Target}
use Rattle.judge.specs.declared.terms.Wanted.{Wanted}

-- the new account may be allocated to, and the new broker is well formed
abbrev pub good_new : Rules → Target → Filed → Bool
good_new r t f = holds (same_stem t.stem r.foreign) (option_map (λ i. i.class) f.common.investor) && is_some f.new_broker

-- what passes a test
abbrev pub passing : {A : Type 0} → (A → Bool) → Option A → Option A
passing test o = and_then o (λ x. cond (test x) (Some x) None)

-- the quantity, where it is within its range
abbrev pub quantity_asked : Rules → Target → Filed → Option ℕ
quantity_asked r t f = passing (λ q. quantity_fits t.kind t.place.group.size r.most_units.count q) f.common.quantity

-- the amount, where it is in whole cents and within its range
abbrev pub amount_asked : Target → Filed → Option Cents
amount_asked t f = passing (λ c. amount_fits t.kind t.place.group.size c.count) (and_then f.common.amount whole_cents)

-- what a filing of a quantity and an amount asks for; board lots are cut where the family cuts them
abbrev pub wanted_for : Rules → Target → ℕ → Cents → Wanted
wanted_for r t q c = record {
  lot = lot_of t;
  cut = r.cuts && kind_number t.kind == kind_number BoardLot;
  quantity = q;
  amount = c;
  runs = runs q (shares_to_unit t.kind t.place.group.size) c.count;
}

-- what a filing asks for: 0 stands for a figure that a ground refuses
abbrev pub wanted_of : Rules → Target → Filed → Wanted
wanted_of r t f = wanted_for r t (unwrap_or (quantity_asked r t f) 0) (unwrap_or (amount_asked t f) (record { count = 0 }))

-- both runs at a price that fits; preview says the same of terms that have no day
abbrev pub good_prices : Wanted → Bool
good_prices w = price_fits w.runs.0 && price_fits w.runs.1

abbrev pub terms_grounds : Rules → Target → Filed → List (Ground × Bool)
terms_grounds r t f =
    (NewAccount, not (good_new r t f)) ∷
    (OrderType, not (is_some f.order_type)) ∷
    (Quantity, not (is_some (quantity_asked r t f))) ∷
    (Amount, not (is_some (amount_asked t f))) ∷
    (Price, not (good_prices (wanted_of r t f))) ∷ []
