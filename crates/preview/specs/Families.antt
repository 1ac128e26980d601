-- What the two families of accounts allow. Assumes nothing.
use Rattle.std.specs.Prelude.{ℕ, Bool, true, false}
use Rattle.lots.specs.declared.units.Kind.{Kind}
use Rattle.lots.specs.declared.units.Kind.TheVariants.{BoardLot, OddLot}
use Rattle.families.specs.Families.{plan_rules, omnibus_rules}
use Rattle.families.specs.declared.family.Rules.{Rules}
use Rattle.preview.specs.declared.asked.Family.{Family}
use Rattle.preview.specs.declared.asked.Family.TheVariants.{Plan, Omnibus}

abbrev pub rules_of : Family → Rules
rules_of Plan = plan_rules
rules_of Omnibus = omnibus_rules

-- In plain figures, to be read without the rules; that they are the rules' own is promised by `as_filed` in the code.
-- the most trading units in a filing of board lots
abbrev pub most_units : Family → ℕ
most_units Plan = 499
most_units Omnibus = 10000

-- board lots of an omnibus account come back cut into pieces
abbrev pub cuts : Family → Kind → Bool
cuts Plan kind = false
cuts Omnibus BoardLot = true
cuts Omnibus OddLot = false
