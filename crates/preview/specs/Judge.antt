-- Whether the figures of a filing are refused, and by which check. Assumes nothing.
use Rattle.std.specs.Prelude.{ℕ, Bool, cond, ◌&&◌, Some, None, Ok, Err, Option, Result}
use Rattle.lots.specs.declared.units.Cents.{Cents}
use Rattle.lots.specs.declared.units.Kind.{Kind}
use Rattle.lots.specs.declared.units.Kind.TheVariants.{BoardLot, OddLot}
use Rattle.lots.specs.Units.{shares_to_unit, whole_cents}
use Rattle.lots.specs.Split.{Run, runs}
use Rattle.lots.specs.Limits.{quantity_fits, amount_fits, price_fits}
use Rattle.preview.specs.Families.{most_units}
use Rattle.preview.specs.declared.asked.Family.{Family}
use Rattle.preview.specs.declared.asked.Family.TheVariants.{Plan, Omnibus}
use Rattle.preview.specs.declared.asked.FilingTerms.{FilingTerms}
use Rattle.preview.specs.declared.refusals.Refusal.{Refusal}
use Rattle.preview.specs.declared.refusals.Refusal.TheVariants.{UnknownFamily, UnknownKind, UnknownUnit, QuantityWord, AmountWord, PartOfCent, PlanQuantity, OmnibusQuantity, OddLotQuantity, Amount, Price}

abbrev pub runs_of : FilingTerms Cents → Run × Run
runs_of t = runs t.quantity (shares_to_unit t.kind t.size) t.amount.count

abbrev pub good_quantity : FilingTerms Cents → Bool
good_quantity t = quantity_fits t.kind t.size (most_units t.family) t.quantity

abbrev pub good_amount : FilingTerms Cents → Bool
good_amount t = amount_fits t.kind t.size t.amount.count

abbrev pub good_prices : FilingTerms Cents → Bool
good_prices t = price_fits (runs_of t).0 && price_fits (runs_of t).1

-- the range of a quantity that was passed
abbrev pub quantity_refusal : Family → Kind → Refusal
quantity_refusal Plan BoardLot = PlanQuantity
quantity_refusal Omnibus BoardLot = OmnibusQuantity
quantity_refusal Plan OddLot = OddLotQuantity
quantity_refusal Omnibus OddLot = OddLotQuantity

-- the question with its amount in cents
abbrev pub in_cents : FilingTerms ℕ → Cents → FilingTerms Cents
in_cents q c = record { family = q.family; kind = q.kind; size = q.size; quantity = q.quantity; amount = c }

-- the checks, in the order of their numbers: the quantity, the amount, the prices
abbrev pub judged : FilingTerms Cents → Result (FilingTerms Cents) Refusal
judged t = cond (good_amount t) (cond (good_prices t) (Ok t) (Err Price)) (Err Amount)

abbrev pub judgement : FilingTerms ℕ → Result (FilingTerms Cents) Refusal
judgement q =
    cond (quantity_fits q.kind q.size (most_units q.family) q.quantity)
    (elim (whole_cents q.amount) [ Some c ↦ judged (in_cents q c) | None ↦ Err PartOfCent ])
    (Err (quantity_refusal q.family q.kind))

abbrev pub passes : FilingTerms Cents → Bool
passes t = good_quantity t && (good_amount t && good_prices t)

-- the number of the check behind a refusal; the words of the command line have none
abbrev pub ground_of : Refusal → Option ℕ
ground_of UnknownFamily = None
ground_of UnknownKind = None
ground_of UnknownUnit = None
ground_of QuantityWord = None
ground_of AmountWord = None
ground_of PartOfCent = Some 18
ground_of PlanQuantity = Some 17
ground_of OmnibusQuantity = Some 17
ground_of OddLotQuantity = Some 17
ground_of Amount = Some 18
ground_of Price = Some 19
