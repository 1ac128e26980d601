-- The first ground on a total, judged by its figures and then by its place in the day.
use Rattle.std.proofs.Common.{◌≡◌, ℕ, Bool, List, None, Option}
use Rattle.judge.specs.Grounds.{first_of}
use Rattle.judge.specs.Totals.{TotalAsked, total_grounds, placed_grounds}
use Rattle.lots.specs.declared.units.Kind.{Kind}
use Rattle.judge.specs.declared.grounds.Ground.{Ground}
use Rattle.judge.specs.declared.totals.TotalTerms.{TotalTerms}
use Rattle.judge.proofs.Firsts.{none-append}
use Rattle.book.specs.Book.{Book}
use Rattle.book.specs.Totals.{number_of_total, kind_of_total, terms_of_total, total_grounds_in}

abbrev pub figure_grounds : Book → TotalAsked → List (Ground × Bool)
figure_grounds b a = total_grounds b.opened b.rules b.groups a

abbrev pub place_grounds : Book → TotalAsked → List (Ground × Bool)
place_grounds b a = placed_grounds b.groups b.totals (number_of_total b a) (kind_of_total a) (terms_of_total a)

-- v is the day as it is opened, b the day as it is closed
pub judged-none : (v b : Book) (a : TotalAsked) (n : Option ℕ) (k : Kind) (t : TotalTerms) → v ≡ b → n ≡ number_of_total b a → k ≡ kind_of_total a → t ≡ terms_of_total a → first_of (total_grounds_in b a) ≡ None → first_of (placed_grounds v.groups v.totals n k t) ≡ None
judged-none v b a n k t same number kind terms h = rw (same, number, kind, terms) (none-append (figure_grounds b a) (place_grounds b a) h).1
