-- The grounds on what a line names: the day, the account, the group. Assumes nothing.
use Rattle.std.specs.Prelude.{◌≡◌, ℕ, Bool, true, false, cond, not, ◌&&◌, List, [], ◌∷◌, ◌++◌, is_some, Some, None, Ok, Err, Option, nat_eq, nat_le, nat_lt}
use Rattle.std.specs.Option.{option_map}
use Rattle.std.specs.Str.{bytes_eq}
use Rattle.octets.specs.Dates.{real_date, real_clock}
use Rattle.octets.specs.Digits.{number_in}
use Rattle.octets.specs.Options.{and_then}
use Rattle.octets.specs.Texts.{is_security}
use Rattle.lots.specs.declared.units.Kind.{Kind as KindOfLot}
use Rattle.lots.specs.declared.units.Lot.{Lot}
use Rattle.families.specs.Accounts.{account_of, same_stem, own_of}
use Rattle.families.specs.Parts.{GroupParts, HeadingParts, RetentionParts}
use Rattle.families.specs.Lines.{broker_of}
use Rattle.families.specs.declared.accounts.OwnAccount.{OwnAccount}
use Rattle.families.specs.declared.family.Rules.{Rules}
use Rattle.forms.specs.Totals.{kind_in, side_in, group_in}
use Rattle.groups.specs.Groups.{number_of, place_of, sealed_by}
use Rattle.groups.specs.declared.kept.Group.{Group}
use Rattle.groups.specs.declared.kept.Place.{Place}
use Rattle.judge.specs.declared.grounds.Ground.{Ground}
use Rattle.judge.specs.declared.grounds.Ground.TheVariants.{DayFigures, Broker, Account, Security, Side, Kind, Date, Clock, Sealed, NoTotal, NewAccount, RetentionStem}
use Rattle.judge.specs.declared.heading.Opened.{Opened}
use Rattle.judge.specs.declared.heading.Target.{Target}

-- the largest trade number
abbrev pub last_trade_number : ℕ
last_trade_number = 99999999

-- a day of bad figures, which takes nothing
abbrev pub not_opened : Opened
not_opened = record { good = false; broker = 0; date = 0; first = 0 }

-- a day of good figures: a broker of four letters or digits, a real date and a first trade number of at most eight digits
abbrev pub opened_on : List ℕ → ℕ → ℕ → Opened
opened_on broker date first =
    elim (broker_of broker) [
      | Some code ↦ cond (real_date date && nat_le first last_trade_number) (record { good = true; broker = code; date = date; first = first }) not_opened
      | None ↦ not_opened
    ]

abbrev pub of_broker : Opened → List ℕ → Bool
of_broker o bs = elim (broker_of bs) [ Some code ↦ nat_eq code o.broker | None ↦ false ]

abbrev pub of_date : Opened → List ℕ → Bool
of_date o bs = elim (number_in bs) [ Some n ↦ nat_eq n o.date | None ↦ false ]

-- 15:00:00, 18:00:00 and 19:00:00
abbrev pub first_clock : ℕ
first_clock = 150000

abbrev pub filing_ends : ℕ
filing_ends = 180000

abbrev pub retention_ends : ℕ
retention_ends = 190000

-- a time of day from 15:00:00 on, before the end
abbrev pub in_hours : ℕ → ℕ → Bool
in_hours clock ends = real_clock clock && (nat_le first_clock clock && nat_lt clock ends)

abbrev pub sealed_account : List Group → List ℕ → Bool
sealed_account gs account = elim (account_of account) [ Some n ↦ sealed_by n gs | None ↦ false ]

-- the grounds on a filing or a deletion, up to its clock
abbrev pub heading_grounds : Opened → Rules → HeadingParts → ℕ → List (Ground × Bool)
heading_grounds o r h clock =
    (DayFigures, not o.good) ∷
    (Broker, not (of_broker o h.broker)) ∷
    (Account, not (is_some (own_of r h.group.account))) ∷
    (Security, not (is_security h.group.security)) ∷
    (Side, not (is_some (side_in r h.group.side))) ∷
    (Kind, not (is_some (kind_in h.kind))) ∷
    (Date, not (of_date o h.date)) ∷
    (Clock, not (in_hours clock filing_ends)) ∷ []

-- the group of an account, a security and a side, if it has a total: its number, and with it the group
abbrev pub number_named : Rules → List Group → GroupParts → Option ℕ
number_named r gs g = elim (group_in r g) [ Ok name ↦ number_of name 0 gs | Err bad ↦ None ]

abbrev pub place_named : Rules → List Group → GroupParts → Option Place
place_named r gs g = elim (group_in r g) [ Ok name ↦ place_of name gs | Err bad ↦ None ]

-- the grounds on the group of a filing or a deletion
abbrev pub group_grounds : Rules → List Group → GroupParts → List (Ground × Bool)
group_grounds r gs g =
    (Sealed, sealed_account gs g.account) ∷
    (NoTotal, not (is_some (place_named r gs g))) ∷ []

abbrev pub named_grounds : Opened → Rules → List Group → HeadingParts → ℕ → List (Ground × Bool)
named_grounds o r gs h clock = heading_grounds o r h clock ++ group_grounds r gs h.group

-- what a heading's account and kind read as
pub record Reads (r : Rules) (h : HeadingParts) (own : OwnAccount) (kind : KindOfLot) : Type 0 where
  pub own_read : own_of r h.group.account ≡ Some own
  pub account_read : account_of h.group.account ≡ Some own.number
  pub kind_read : kind_in h.kind ≡ Some kind

-- what a line names: its account's stem, the group with its number, and the kind
abbrev pub target_of : Rules → List Group → HeadingParts → Option Target
target_of r gs h =
    and_then (own_of r h.group.account) (λ own.
    and_then (place_named r gs h.group) (λ place.
    option_map (λ kind. record { stem = own.stem; place = place; kind = kind }) (kind_in h.kind)))

abbrev pub lot_of : Target → Lot
lot_of t = record { kind = t.kind; size = t.place.group.size }

-- the stem of an account is the family's foreign one
abbrev pub foreign_of : Rules → Option OwnAccount → Bool
foreign_of r None = false
foreign_of r (Some own) = same_stem own.stem r.foreign

-- the grounds on a retention, up to its stem
abbrev pub retention_grounds : Opened → Rules → List Group → RetentionParts → ℕ → List (Ground × Bool)
retention_grounds o r gs p clock =
    (DayFigures, not o.good) ∷
    (Broker, not (of_broker o p.broker)) ∷
    (Account, not (is_some (own_of r p.account))) ∷
    (Date, not (of_date o p.date)) ∷
    (Clock, not (in_hours clock retention_ends)) ∷
    (Sealed, sealed_account gs p.account) ∷
    (NewAccount, not (bytes_eq p.new_account p.account)) ∷
    (RetentionStem, not (foreign_of r (own_of r p.account))) ∷ []
