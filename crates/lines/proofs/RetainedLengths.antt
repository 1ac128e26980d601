-- How long the replies to a retention are.
use Rattle.std.proofs.Common.{◌≡◌, ℕ, ◌*◌, List, length}
use Rattle.layout.specs.Layouts.{width_of}
use Rattle.layout.specs.declared.field.Field.{Field}
use Rattle.forms.specs.Replies.{retained_says}
use Rattle.forms.proofs.Rows.{length-records}
use Rattle.groups.specs.declared.kept.Group.{Group}
use Rattle.groups.specs.declared.kept.Total.{Total}
use Rattle.lines.specs.Retained.{retained_of, retained_replies}

-- one record for each total
pub length-replies : (fs : List Field) (broker date : ℕ) (groups : List Group) (ts : List Total) → length (retained_replies fs broker date groups ts) ≡ length ts * width_of fs
length-replies fs broker date groups ts = length-records (λ t f. retained_says (retained_of broker date groups t) f.item) fs ts
