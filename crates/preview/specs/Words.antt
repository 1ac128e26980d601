-- A filing as the words of the command line tell it. Assumes nothing.
use Rattle.std.specs.Prelude.{ℕ, cond, ◌||◌, List, Some, None, Ok, Err, codes, Option, Result}
use Rattle.std.specs.Str.{bytes_eq}
use Rattle.lots.specs.declared.units.Kind.{Kind}
use Rattle.lots.specs.declared.units.Kind.TheVariants.{BoardLot, OddLot}
use Rattle.lots.specs.declared.units.UnitSize.{UnitSize}
use Rattle.lots.specs.Units.{unit_size}
use Rattle.octets.specs.Options.{and_then}
use Rattle.yuan.specs.Read.{number, yuan}
use Rattle.preview.specs.declared.asked.Family.{Family}
use Rattle.preview.specs.declared.asked.Family.TheVariants.{Plan, Omnibus}
use Rattle.preview.specs.declared.asked.FilingTerms.{FilingTerms}
use Rattle.preview.specs.declared.refusals.Refusal.{Refusal}
use Rattle.preview.specs.declared.refusals.Refusal.TheVariants.{UnknownFamily, UnknownKind, UnknownUnit, QuantityWord, AmountWord}

abbrev pub family_of : List ℕ → Option Family
family_of w = cond (bytes_eq w (codes "plan")) (Some Plan) (cond (bytes_eq w (codes "omnibus")) (Some Omnibus) None)

-- by name, or by its number in the exchange's records
abbrev pub kind_of : List ℕ → Option Kind
kind_of w =
    cond (bytes_eq w (codes "board") || bytes_eq w (codes "0")) (Some BoardLot)
    (cond (bytes_eq w (codes "odd") || bytes_eq w (codes "2")) (Some OddLot) None)

abbrev pub unit_of : List ℕ → Option UnitSize
unit_of w = and_then (number w) unit_size

-- what a word tells, or the refusal of that word
abbrev pub told : {A B : Type 0} → Option A → Refusal → (A → Result B Refusal) → Result B Refusal
told (Some x) e f = f x
told None e f = Err e

-- the first word that tells nothing is refused
abbrev pub question_of : List ℕ → List ℕ → List ℕ → List ℕ → List ℕ → Result (FilingTerms ℕ) Refusal
question_of family kind unit quantity amount =
    told (family_of family) UnknownFamily (λ f.
    told (kind_of kind) UnknownKind (λ k.
    told (unit_of unit) UnknownUnit (λ u.
    told (number quantity) QuantityWord (λ q.
    told (yuan amount) AmountWord (λ y.
    Ok (record { family = f; kind = k; size = u; quantity = q; amount = y }))))))
