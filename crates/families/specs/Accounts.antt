-- Accounts: the four stems, and what an investor's account is. Assumes nothing.
use Rattle.std.specs.Prelude.{ℕ, Bool, false, cond, not, ◌||◌, List, length, take, Some, None, codes, Option, ◌==◌}
use Rattle.std.specs.Str.{bytes_eq}
use Rattle.octets.specs.Digits.{number_in}
use Rattle.octets.specs.Options.{and_then}
use Rattle.families.specs.declared.accounts.Stem.{Stem}
use Rattle.families.specs.declared.accounts.Stem.TheVariants.{PlanDomestic, PlanForeign, OmnibusDomestic, OmnibusForeign}
use Rattle.families.specs.declared.accounts.Class.{Class}
use Rattle.families.specs.declared.accounts.Class.TheVariants.{Domestic, Foreign, House}
use Rattle.families.specs.declared.accounts.Investor.{Investor}
use Rattle.families.specs.declared.accounts.OwnAccount.{OwnAccount}
use Rattle.families.specs.declared.family.Rules.{Rules}

abbrev pub stem_number : Stem → ℕ
stem_number PlanDomestic = 0
stem_number PlanForeign = 1
stem_number OmnibusDomestic = 2
stem_number OmnibusForeign = 3

abbrev pub same_stem : Stem → Stem → Bool
same_stem a b = stem_number a == stem_number b

-- the stem that six digits are
abbrev pub stem_in : List ℕ → Option Stem
stem_in six =
    cond (bytes_eq six (codes "847777")) (Some PlanDomestic)
    (cond (bytes_eq six (codes "947777")) (Some PlanForeign)
    (cond (bytes_eq six (codes "885555")) (Some OmnibusDomestic)
    (cond (bytes_eq six (codes "995555")) (Some OmnibusForeign)
    None)))

-- the stem that an account of seven bytes begins with
abbrev pub stem_of : List ℕ → Option Stem
stem_of a = cond (length a == 7) (stem_in (take 6 a)) None

-- the number of an account of seven digits
abbrev pub account_of : List ℕ → Option ℕ
account_of a = cond (length a == 7) (number_in a) None

-- foreign accounts begin with 94, 95 or 99
abbrev pub foreign_front : List ℕ → Bool
foreign_front two = bytes_eq two (codes "94") || (bytes_eq two (codes "95") || bytes_eq two (codes "99"))

-- one of the house's where it begins with any of the four stems
abbrev pub class_in : List ℕ → Class
class_in a = elim (stem_of a) [ Some s ↦ House | None ↦ cond (foreign_front (take 2 a)) Foreign Domestic ]

-- an investor's account of seven digits
abbrev pub investor_of : List ℕ → Option Investor
investor_of a = and_then (account_of a) (λ n. Some (record { number = n; class = class_in a }))

-- an account that a family allocates from
abbrev pub is_own : Rules → Stem → Bool
is_own r s = same_stem s r.domestic || same_stem s r.foreign

abbrev pub own_of : Rules → List ℕ → Option OwnAccount
own_of r a = and_then (account_of a) (λ n. and_then (stem_of a) (λ s. cond (is_own r s) (Some (record { number = n; stem = s })) None))

-- under the family's foreign stem a foreign account is allocated to, under the other a domestic one
abbrev pub holds : Bool → Option Class → Bool
holds foreign None = false
holds foreign (Some Domestic) = not foreign
holds foreign (Some Foreign) = foreign
holds foreign (Some House) = false
