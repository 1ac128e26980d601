-- What a filing's quantity, amount and prices may be. Assumes nothing.
use Rattle.std.specs.Prelude.{ℕ, ◌%◌, Bool, ◌&&◌, ◌||◌, ◌==◌, nat_le, nat_lt}
use Rattle.lots.specs.declared.units.UnitSize.{UnitSize}
use Rattle.lots.specs.declared.units.Kind.{Kind}
use Rattle.lots.specs.declared.units.Kind.TheVariants.{BoardLot, OddLot}
use Rattle.lots.specs.Units.{shares_in, shares_to_unit}
use Rattle.lots.specs.Split.{Run, quantity, price}

-- board lots: 1 to as many units as the family allows; odd lots: 1 to 999 shares, fewer than a unit holds
abbrev pub quantity_fits : Kind → UnitSize → ℕ → ℕ → Bool
quantity_fits BoardLot size most q = nat_le 1 q && nat_le q most
quantity_fits OddLot size most q = nat_le 1 q && (nat_le q 999 && nat_lt q (shares_in size))

-- at least one cent, and whole cents for one share of each unit
abbrev pub amount_fits : Kind → UnitSize → ℕ → Bool
amount_fits kind size amount = nat_le 1 amount && amount % shares_to_unit kind size == 0

-- 1 to 9,999,999 cents; an empty run has no price
abbrev pub price_fits : Run → Bool
price_fits r = quantity r == 0 || (nat_le 1 (price r) && nat_le (price r) 9999999)
