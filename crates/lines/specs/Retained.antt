-- The replies to a retention. Assumes nothing.
use Rattle.std.specs.Prelude.{ℕ, Bool, List, filter}
use Rattle.layout.specs.declared.field.Field.{Field}
use Rattle.forms.specs.Records.{records_of}
use Rattle.forms.specs.Replies.{retained_says}
use Rattle.forms.specs.declared.contents.Retained.{Retained}
use Rattle.groups.specs.Groups.{heading_at}
use Rattle.groups.specs.declared.kept.Group.{Group}
use Rattle.groups.specs.declared.kept.Total.{Total}

-- what the reply for a total says
abbrev pub retained_of : ℕ → ℕ → List Group → Total → Retained
retained_of broker date groups t = record {
  heading = heading_at broker date groups t.group;
  kind = t.kind;
  quantity = t.quantity;
  amount = t.amount;
}

-- the totals of the groups that are taken, in the order of acceptance
abbrev pub totals_taken : (ℕ → Bool) → List Total → List Total
totals_taken taken totals = filter (λ t. taken t.group) totals

-- one reply for each total
abbrev pub retained_replies : List Field → ℕ → ℕ → List Group → List Total → List ℕ
retained_replies fs broker date groups totals = records_of (λ t f. retained_says (retained_of broker date groups t) f.item) fs totals
