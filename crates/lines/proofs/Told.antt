-- The replies to a retention are the records of what each total is told as.
use Rattle.std.proofs.Common.{◌≡◌, ℕ, List, [], ◌∷◌, ◌++◌, map, refl, ap}
use Rattle.layout.specs.Values.{Content}
use Rattle.layout.specs.Layouts.{record_of}
use Rattle.layout.specs.declared.field.Field.{Field}
use Rattle.forms.specs.Records.{records_of}
use Rattle.forms.specs.Replies.{retained_says}
use Rattle.forms.specs.declared.contents.Retained.{Retained}
use Rattle.groups.specs.declared.kept.Group.{Group}
use Rattle.groups.specs.declared.kept.Total.{Total}
use Rattle.lines.specs.Retained.{retained_of, retained_replies}

abbrev pub says : Retained → Field → Content
says c f = retained_says c f.item

pub replies-are : (fs : List Field) (broker date : ℕ) (gs : List Group) (ts : List Total) → records_of says fs (map (retained_of broker date gs) ts) ≡ retained_replies fs broker date gs ts
replies-are fs broker date gs [] = refl
replies-are fs broker date gs (t ∷ ts) = ap (λ x. record_of (says (retained_of broker date gs t)) fs ++ x) (replies-are fs broker date gs ts)
