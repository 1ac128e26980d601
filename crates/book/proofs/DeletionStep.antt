-- A deletion to which no ground applies keeps what every run keeps.
use Rattle.std.proofs.Common.{◌≡◌, ℕ, not, List, filter, Some, None, Ok, Err, sym, ap, subst, ◌∙◌}
use Rattle.lots.specs.declared.units.Kind.{Kind}
use Rattle.families.specs.Parts.{HeadingParts}
use Rattle.families.specs.declared.family.Rules.{Rules}
use Rattle.forms.specs.Totals.{kind_in, group_in}
use Rattle.forms.specs.declared.contents.GroupName.{GroupName}
use Rattle.judge.specs.declared.heading.Target.{Target}
use Rattle.book.specs.Book.{Book}
use Rattle.book.specs.Lines.{deleted}
use Rattle.book.specs.Tally.{Tally, is_of, deletion_heard}
use Rattle.book.proofs.Passed.{Headed}
use Rattle.book.proofs.Sound.{Sound}
use Rattle.book.proofs.Striking.{deletion_sound, struck}

deleted_as : (r : Rules) (h : HeadingParts) (t : Tally) (name : GroupName) (kind : Kind) → group_in r h.group ≡ Ok name → kind_in h.kind ≡ Some kind → deletion_heard r h t ≡ record t { filings = struck name kind t.filings }
deleted_as r h t name kind e k =
    ap (λ x. elim x [ Ok n ↦ elim (kind_in h.kind) [ Some j ↦ record t { filings = filter (λ f. not (is_of n j f)) t.filings } | None ↦ t ] | Err bad ↦ t ]) e
    ∙ ap (λ x. elim x [ Some j ↦ record t { filings = filter (λ f. not (is_of name j f)) t.filings } | None ↦ t ]) k

pub deletion_step : (b : Book) (t : Tally) (pieces : List (List ℕ)) → Sound b t pieces → (line : List ℕ) (h : HeadingParts) (at : Target) → Headed b h at → Sound (deleted b line at).book (deletion_heard b.rules h t) pieces
deletion_step b t pieces S line h at H =
    subst (λ x. Sound (deleted b line at).book x pieces) (sym (deleted_as b.rules h t H.named.name at.kind H.named.read H.kind_read))
    (deletion_sound b t pieces S H.named.name at.kind at.place.number H.named.numbered)
