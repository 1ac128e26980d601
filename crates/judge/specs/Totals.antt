-- The grounds on a total. Assumes nothing.
use Rattle.std.specs.Prelude.{ℕ, ◌*◌, Bool, true, false, cond, not, ◌&&◌, List, [], ◌∷◌, length, is_some, Some, None, Option, nat_eq, nat_le}
use Rattle.std.specs.List.{slice_get}
use Rattle.octets.specs.Options.{and_then}
use Rattle.lots.specs.Units.{shares_in, shares_to_unit, unit_size, whole_cents, kind_of}
use Rattle.lots.specs.declared.units.Kind.{Kind as KindOfLot}
use Rattle.lots.specs.declared.units.UnitSize.{UnitSize}
use Rattle.families.specs.Accounts.{own_of}
use Rattle.families.specs.Parts.{GroupParts, group_by}
use Rattle.families.specs.declared.family.Rules.{Rules}
use Rattle.forms.specs.Totals.{side_in, security_in}
use Rattle.groups.specs.Groups.{has_total}
use Rattle.groups.specs.Sums.{traded_by, comes_over}
use Rattle.groups.specs.Limits.{most_groups, most_shares, most_cents}
use Rattle.groups.specs.declared.kept.Group.{Group}
use Rattle.groups.specs.declared.kept.Total.{Total}
use Rattle.groups.specs.declared.kept.Traded.{Traded}
use Rattle.judge.specs.Heading.{sealed_account}
use Rattle.judge.specs.declared.grounds.Ground.{Ground}
use Rattle.judge.specs.declared.grounds.Ground.TheVariants.{DayFigures, Broker, Account, Security, Side, Kind, Date, Sealed, TotalFigures, TotalGiven, GroupFigures, GroupCount}
use Rattle.judge.specs.declared.heading.Opened.{Opened}
use Rattle.judge.specs.declared.totals.Asked.{Asked}
use Rattle.judge.specs.declared.totals.PlainTotal.{PlainTotal}
use Rattle.judge.specs.declared.totals.TotalTerms.{TotalTerms}

-- a trading unit, a quantity of at most eight digits and an amount of whole cents that fits its field
abbrev pub total_terms : ℕ → ℕ → ℕ → Option TotalTerms
total_terms unit q amount =
    and_then (unit_size unit) (λ u.
    cond (nat_le 1 q && nat_le q most_shares)
    (and_then (whole_cents amount) (λ c.
    cond (nat_le 1 c.count && nat_le c.count most_cents) (Some (record { size = u; quantity = q; amount = c })) None))
    None)

-- a total as it is asked for: whether broker and date are the day's, what names its group, its kind and its figures
pub record TotalAsked : Type 0 where
  pub of_broker : Bool
  pub of_date : Bool
  pub group : GroupParts
  pub kind : Option KindOfLot
  pub terms : Option TotalTerms

-- what a value of the code asks for
abbrev pub asked_by : Asked → TotalAsked
asked_by a = record {
  of_broker = a.of_broker;
  of_date = a.of_date;
  group = group_by a.group;
  kind = a.kind;
  terms = a.terms;
}

-- a total by its figures; it has no broker and no date
pub record PlainParts : Type 0 where
  pub group : GroupParts
  pub kind : ℕ
  pub unit : ℕ
  pub quantity : ℕ
  pub amount : ℕ

abbrev pub plain_by : PlainTotal → PlainParts
plain_by t = record { group = group_by t.group; kind = t.kind; unit = t.unit; quantity = t.quantity; amount = t.amount }

abbrev pub asked_plainly : PlainParts → TotalAsked
asked_plainly t = record {
  of_broker = true;
  of_date = true;
  group = t.group;
  kind = kind_of t.kind;
  terms = total_terms t.unit t.quantity t.amount;
}

-- the grounds on a total, up to its figures
abbrev pub total_grounds : Opened → Rules → List Group → TotalAsked → List (Ground × Bool)
total_grounds o r gs a =
    (DayFigures, not o.good) ∷
    (Broker, not a.of_broker) ∷
    (Account, not (is_some (own_of r a.group.account))) ∷
    (Security, not (is_some (security_in a.group.security))) ∷
    (Side, not (is_some (side_in r a.group.side))) ∷
    (Kind, not (is_some a.kind)) ∷
    (Date, not a.of_date) ∷
    (Sealed, sealed_account gs a.group.account) ∷
    (TotalFigures, not (is_some a.terms)) ∷ []

-- the group, if there is one, has trading units of this size
abbrev pub size_agrees : List Group → Option ℕ → UnitSize → Bool
size_agrees gs None size = true
size_agrees gs (Some n) size = elim (slice_get gs n) [ Some g ↦ nat_eq (shares_in g.size) (shares_in size) | None ↦ true ]

-- the group and kind have a total
abbrev pub given : List Total → Option ℕ → KindOfLot → Bool
given ts None kind = false
given ts (Some n) kind = has_total n kind ts

-- what a group has traded so far, nothing where there is none yet
abbrev pub so_far : List Total → Option ℕ → Traded
so_far ts None = record { shares = record { count = 0 }; amount = record { count = 0 } }
so_far ts (Some n) = traded_by n ts

-- with this total the group comes over what its totals may come to
abbrev pub over_with : List Total → Option ℕ → KindOfLot → TotalTerms → Bool
over_with ts number kind t = comes_over (so_far ts number) (t.quantity * shares_to_unit kind t.size) t.amount.count

-- a further group is wanted, and there is no place for it
abbrev pub is_full : List Group → Option ℕ → Bool
is_full gs number = not (is_some number) && nat_le most_groups (length gs)

-- the grounds on a total of good figures in the day's table
abbrev pub placed_grounds : List Group → List Total → Option ℕ → KindOfLot → TotalTerms → List (Ground × Bool)
placed_grounds gs ts number kind t =
    (TotalFigures, not (size_agrees gs number t.size)) ∷
    (TotalGiven, given ts number kind) ∷
    (GroupFigures, over_with ts number kind t) ∷
    (GroupCount, is_full gs number) ∷ []
