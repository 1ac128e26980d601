-- The tally: what was traded and what is filed, from the arguments of accepted calls alone. It never looks at a day. Assumes nothing.
use Rattle.std.specs.Prelude.{ℕ, ◌*◌, ◌/◌, Bool, cond, not, ◌&&◌, List, [], ◌∷◌, ◌++◌, filter, sum_by, Some, None, Ok, Err, Option, Result, ◌==◌}
use Rattle.octets.specs.Digits.{number_in}
use Rattle.lots.specs.Units.{kind_number, per_cent}
use Rattle.lots.specs.declared.units.Kind.{Kind}
use Rattle.lots.specs.declared.units.Kind.TheVariants.{BoardLot, OddLot}
use Rattle.layout.specs.Layouts.{told}
use Rattle.layout.specs.declared.field.Item.TheVariants.{Kind as KindItem}
use Rattle.families.specs.Accounts.{account_of}
use Rattle.families.specs.Parts.{GroupParts, HeadingParts, FilingParts, RetentionParts, group_told}
use Rattle.families.specs.Tables.{total_row as total_layout}
use Rattle.families.specs.declared.family.Rules.{Rules}
use Rattle.forms.specs.Said.{Said, filing, deletion, retention}
use Rattle.forms.specs.Totals.{kind_in, group_in}
use Rattle.forms.specs.declared.contents.GroupName.{GroupName}
use Rattle.forms.specs.declared.telling.NotTold.{NotTold}
use Rattle.groups.specs.Groups.{same_name, some}

-- a total: its group, its kind, the shares in a trading unit, and the shares and cents that were traded
pub record Traded : Type 0 where
  pub group : GroupName
  pub kind : Kind
  pub unit : ℕ
  pub shares : ℕ
  pub amount : ℕ

-- a filing, unsplit: its group, its kind, and the shares and cents that were filed
pub record Filed : Type 0 where
  pub group : GroupName
  pub kind : Kind
  pub shares : ℕ
  pub amount : ℕ

-- the groups in order of their first total, and the totals and filings that stand
pub record Tally : Type 0 where
  pub groups : List GroupName
  pub totals : List Traded
  pub filings : List Filed

abbrev pub nothing : Tally
nothing = record { groups = []; totals = []; filings = [] }

-- the shares in one of what a quantity counts, where a trading unit has u: the number that the call gave, where `shares_to_unit` of lots
-- takes a size
abbrev pub shares_each : Kind → ℕ → ℕ
shares_each BoardLot u = u
shares_each OddLot u = 1

-- the shares in a trading unit of a group, as its first total told them
abbrev pub unit_of : GroupName → List Traded → ℕ
unit_of name [] = 0
unit_of name (t ∷ ts) = cond (same_name t.group name) t.unit (unit_of name ts)

-- what was traded and what is filed in a group, in shares and in cents
abbrev pub traded_shares : GroupName → List Traded → ℕ
traded_shares name ts = sum_by (λ t. cond (same_name t.group name) t.shares 0) ts

abbrev pub traded_amount : GroupName → List Traded → ℕ
traded_amount name ts = sum_by (λ t. cond (same_name t.group name) t.amount 0) ts

abbrev pub filed_shares : GroupName → List Filed → ℕ
filed_shares name fs = sum_by (λ f. cond (same_name f.group name) f.shares 0) fs

abbrev pub filed_amount : GroupName → List Filed → ℕ
filed_amount name fs = sum_by (λ f. cond (same_name f.group name) f.amount 0) fs

-- a total enters its group and what was traded
abbrev pub with_traded : GroupName → Kind → ℕ → ℕ → ℕ → Tally → Tally
with_traded name kind u q amount t = record {
  groups = cond (some (λ g. same_name g name) t.groups) t.groups (t.groups ++ name ∷ []);
  totals = t.totals ++ record { group = name; kind = kind; unit = u; shares = q * shares_each kind u; amount = amount / per_cent } ∷ [];
  filings = t.filings;
}

abbrev pub total_heard : Rules → GroupParts → Option Kind → ℕ → ℕ → ℕ → Tally → Tally
total_heard r g (Some kind) u q amount t = elim (group_in r g) [ Ok name ↦ with_traded name kind u q amount t | Err bad ↦ t ]
total_heard r g None u q amount t = t

-- a row of totals, with the shares in a trading unit beside it
abbrev pub row_heard : Rules → List ℕ → Option ℕ → Option ℕ → ℕ → Tally → Tally
row_heard r bytes (Some q) (Some amount) u t = total_heard r (group_told total_layout bytes) (kind_in (told total_layout KindItem bytes)) u q amount t
row_heard r bytes (Some q) None u t = t
row_heard r bytes None amount u t = t

-- a filing enters what its line says, a trading unit counting as many shares as its group's totals say
abbrev pub with_filed : GroupName → Kind → ℕ → ℕ → Tally → Tally
with_filed name kind q amount t = record t { filings = t.filings ++ record { group = name; kind = kind; shares = q * shares_each kind (unit_of name t.totals); amount = amount / per_cent } ∷ [] }

abbrev pub filed_as : GroupName → Option Kind → Option ℕ → Option ℕ → Tally → Tally
filed_as name (Some kind) (Some q) (Some amount) t = with_filed name kind q amount t
filed_as name (Some kind) (Some q) None t = t
filed_as name (Some kind) None amount t = t
filed_as name None q amount t = t

abbrev pub filing_heard : Rules → FilingParts → Tally → Tally
filing_heard r p t =
    elim (group_in r p.heading.group) [
      | Ok name ↦ filed_as name (kind_in p.heading.kind) (number_in p.quantity) (number_in p.amount) t
      | Err bad ↦ t
    ]

-- a deletion strikes every filing of its group and kind
abbrev pub is_of : GroupName → Kind → Filed → Bool
is_of name kind f = same_name f.group name && kind_number f.kind == kind_number kind

abbrev pub deletion_heard : Rules → HeadingParts → Tally → Tally
deletion_heard r h t =
    elim (group_in r h.group) [
      | Ok name ↦ elim (kind_in h.kind) [ Some kind ↦ record t { filings = filter (λ f. not (is_of name kind f)) t.filings } | None ↦ t ]
      | Err bad ↦ t
    ]

-- A retention strikes every filing of each group of its account whose totals and filings differ in summed shares or summed
-- amount.
abbrev pub differs : Tally → GroupName → Bool
differs t name = not (traded_shares name t.totals == filed_shares name t.filings && traded_amount name t.totals == filed_amount name t.filings)

abbrev pub is_struck : ℕ → Tally → Filed → Bool
is_struck account t f = f.group.account == account && differs t f.group

abbrev pub retention_heard : RetentionParts → Tally → Tally
retention_heard p t = elim (account_of p.account) [ Some account ↦ record t { filings = filter (λ f. not (is_struck account t f)) t.filings } | None ↦ t ]

abbrev pub line_heard : Rules → Result Said NotTold → Tally → Tally
line_heard r (Ok (filing p)) t = filing_heard r p t
line_heard r (Ok (deletion p)) t = deletion_heard r p t
line_heard r (Ok (retention p)) t = retention_heard p t
line_heard r (Err e) t = t
