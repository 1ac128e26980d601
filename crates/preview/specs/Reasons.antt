-- What a refusal says: which word, and why. Assumes nothing.
use Rattle.std.specs.Prelude.{ℕ, List, codes}
use Rattle.preview.specs.declared.refusals.Argument.{Argument}
use Rattle.preview.specs.declared.refusals.Argument.TheVariants.{Family as TheFamily, Kind as TheKind, Unit as TheUnit, Quantity as TheQuantity, Amount as TheAmount}
use Rattle.preview.specs.declared.refusals.Refusal.{Refusal}
use Rattle.preview.specs.declared.refusals.Refusal.TheVariants.{UnknownFamily, UnknownKind, UnknownUnit, QuantityWord, AmountWord, PartOfCent, PlanQuantity, OmnibusQuantity, OddLotQuantity, Amount, Price}

abbrev pub argument_of : Refusal → Argument
argument_of UnknownFamily = TheFamily
argument_of UnknownKind = TheKind
argument_of UnknownUnit = TheUnit
argument_of QuantityWord = TheQuantity
argument_of AmountWord = TheAmount
argument_of PartOfCent = TheAmount
argument_of PlanQuantity = TheQuantity
argument_of OmnibusQuantity = TheQuantity
argument_of OddLotQuantity = TheQuantity
argument_of Amount = TheAmount
argument_of Price = TheAmount

-- what a word is called
abbrev pub argument_name : Argument → List ℕ
argument_name TheFamily = codes "family"
argument_name TheKind = codes "kind"
argument_name TheUnit = codes "unit"
argument_name TheQuantity = codes "quantity"
argument_name TheAmount = codes "amount"

abbrev pub reason_of : Refusal → List ℕ
reason_of UnknownFamily = codes "the family is plan or omnibus"
reason_of UnknownKind = codes "the kind is board (or 0) or odd (or 2)"
reason_of UnknownUnit = codes "a trading unit has 1, 10, 100 or 1,000 shares"
reason_of QuantityWord = codes "the quantity is a whole number, as 499 or 10,000"
reason_of AmountWord = codes "the amount is in yuan, with at most twelve digits before the point and four behind it, as 100,010.00"
reason_of PartOfCent = codes "the amount is in whole cents"
reason_of PlanQuantity = codes "a plan files 1 to 499 trading units"
reason_of OmnibusQuantity = codes "an omnibus account files 1 to 10,000 trading units"
reason_of OddLotQuantity = codes "odd lots are 1 to 999 shares, and fewer than a trading unit"
reason_of Amount = codes "the amount is at least 0.01 and, for board lots, a multiple of as many cents as a trading unit has shares"
reason_of Price = codes "the price of a share would be under 0.01 or over 99,999.99"
