-- The groups of a day and their totals. Assumes nothing.
use Rattle.std.specs.Prelude.{ℕ, zero, suc, ◌+◌, Bool, true, false, cond, ◌&&◌, ◌||◌, List, [], ◌∷◌, Some, None, Option, ◌==◌, slice_set, take}
use Rattle.std.specs.List.{slice_get, list_any}
use Rattle.std.specs.Option.{option_map}
use Rattle.octets.specs.Options.{and_then}
use Rattle.lots.specs.declared.units.Kind.{Kind}
use Rattle.groups.specs.Each.{of_group_and_kind}
use Rattle.forms.specs.declared.contents.GroupName.{GroupName}
use Rattle.forms.specs.declared.contents.Heading.{Heading}
use Rattle.groups.specs.declared.kept.Group.{Group}
use Rattle.groups.specs.declared.kept.Place.{Place}
use Rattle.groups.specs.declared.kept.Total.{Total}
use Rattle.groups.specs.declared.kept.GroupTable.{GroupTable}

-- the groups in order of their number, the totals in order of acceptance
abbrev pub groups_of : GroupTable → List Group
groups_of t = take t.count t.groups

abbrev pub totals_of : GroupTable → List Total
totals_of t = take t.accepted t.totals

abbrev pub same_name : GroupName → GroupName → Bool
same_name a b = a.account == b.account && (a.security == b.security && a.side == b.side)

-- the number of the first group of a name, the first in the list being n
abbrev pub number_of : GroupName → ℕ → List Group → Option ℕ
number_of name n [] = None
number_of name n (g ∷ gs) = cond (same_name g.name name) (Some n) (number_of name (n + 1) gs)

-- the group of a number, with it
abbrev pub place_at : List Group → ℕ → Option Place
place_at gs n = option_map (λ g. record { number = n; group = g }) (slice_get gs n)

-- the first group of a name, with its number
abbrev pub place_of : GroupName → List Group → Option Place
place_of name gs = and_then (number_of name 0 gs) (place_at gs)

-- one of the list passes a test: the library's `list_any`, under the word that the grounds use
abbrev pub some : {A : Type 0} → (A → Bool) → List A → Bool
some test xs = list_any test xs

-- the group and kind have a total
abbrev pub has_total : ℕ → Kind → List Total → Bool
has_total n kind ts = some (of_group_and_kind n kind) ts

-- an account is sealed once one of its groups is retained
abbrev pub retained_of : ℕ → Group → Bool
retained_of account g = g.retained && g.name.account == account

abbrev pub sealed_by : ℕ → List Group → Bool
sealed_by account gs = some (retained_of account) gs

-- one of the numbers below n passes a test
abbrev pub any_below : (ℕ → Bool) → ℕ → Bool
any_below test zero = false
any_below test (suc n) = test n || any_below test n

-- the name of nobody's group
abbrev pub nobody : GroupName
nobody = record { account = 0; security = 0; side = 0 }

-- the name of the group of a number; nobody's where there is none
abbrev pub name_at : List Group → ℕ → GroupName
name_at groups n = elim (slice_get groups n) [ Some g ↦ g.name | None ↦ nobody ]

-- what a record says first: the broker, the date, and the name of the group of a number
abbrev pub heading_at : ℕ → ℕ → List Group → ℕ → Heading
heading_at broker date groups n = record { broker = broker; date = date; group = name_at groups n }

-- a group once a retention has taken it
abbrev pub retained : Group → Group
retained g = record { name = g.name; size = g.size; retained = true }

-- the groups with that of a number retained
abbrev pub retained_at : ℕ → List Group → List Group
retained_at n gs = elim (slice_get gs n) [ Some g ↦ slice_set gs n (retained g) | None ↦ gs ]
