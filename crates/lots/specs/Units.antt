-- The sizes of a trading unit and the kinds of a quantity, with their numbers. Assumes nothing.
use Rattle.std.specs.Prelude.{ℕ, ◌*◌, ◌/◌, ◌%◌, cond, List, ◌++◌, Some, None, Option, ◌==◌, codes, decimal}
use Rattle.lots.specs.declared.units.Cents.{Cents}
use Rattle.lots.specs.declared.units.UnitSize.{UnitSize}
use Rattle.lots.specs.declared.units.UnitSize.TheVariants.{One, Ten, Hundred, Thousand}
use Rattle.lots.specs.declared.units.Kind.{Kind}
use Rattle.lots.specs.declared.units.Kind.TheVariants.{BoardLot, OddLot}
use Rattle.lots.specs.declared.units.UnknownUnit.{UnknownUnit}
use Rattle.lots.specs.declared.units.UnknownKind.{UnknownKind}

-- the shares in one trading unit
abbrev pub shares_in : UnitSize → ℕ
shares_in One = 1
shares_in Ten = 10
shares_in Hundred = 100
shares_in Thousand = 1000

-- the size of a unit of so many shares, if there is one
abbrev pub unit_size : ℕ → Option UnitSize
unit_size u =
    cond (u == 1) (Some One)
    (cond (u == 10) (Some Ten)
    (cond (u == 100) (Some Hundred)
    (cond (u == 1000) (Some Thousand)
    None)))

-- what is said of a size that no unit has
abbrev pub unknown_unit_text : UnknownUnit → List ℕ
unknown_unit_text e = codes "no trading unit holds " ++ (decimal e.0 ++ codes " shares")

-- the kind's number in the exchange's records
abbrev pub kind_number : Kind → ℕ
kind_number BoardLot = 0
kind_number OddLot = 2

-- the kind of a number, if it is one
abbrev pub kind_of : ℕ → Option Kind
kind_of n = cond (n == kind_number BoardLot) (Some BoardLot) (cond (n == kind_number OddLot) (Some OddLot) None)

-- what is said of a number that no kind has
abbrev pub unknown_kind_text : UnknownKind → List ℕ
unknown_kind_text e = codes "no kind has number " ++ decimal e.0

-- the shares in one of what a quantity counts: board lots count trading units, odd lots count shares
abbrev pub shares_to_unit : Kind → UnitSize → ℕ
shares_to_unit BoardLot size = shares_in size
shares_to_unit OddLot size = 1

-- shares times price of a quantity in units of s shares
abbrev pub worth : ℕ → ℕ → ℕ → ℕ
worth s quantity price = (quantity * s) * price

-- ten-thousandths of a yuan in a cent
abbrev pub per_cent : ℕ
per_cent = 100

-- an amount of ten-thousandths in cents, if it is a whole number of them
abbrev pub whole_cents : ℕ → Option Cents
whole_cents n = cond (n % per_cent == 0) (Some (record { count = n / per_cent })) None

-- cents in ten-thousandths, as an amount's field has them
abbrev pub ten_thousandths : Cents → ℕ
ten_thousandths c = c.count * per_cent
