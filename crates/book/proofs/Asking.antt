-- What a day answers: an unfinished group among its groups, and a row that is written.
use Rattle.std.proofs.Common.{◌≡◌, ℕ, zero, suc, ◌<◌, ◌≤◌, true, List, length, Some, subst, arith, inl, inr}
use Rattle.std.specs.List.{slice_get}
use Rattle.std.proofs.Math.Bool.{or-true}
use Rattle.std.proofs.lemmas.Bool.{cases_eq, ne_eqb, le-ltb}
use Rattle.octets.specs.Splice.{spliced}
use Rattle.layout.specs.Layouts.{record_of}
use Rattle.ledger.specs.declared.row.Entry.{Entry}
use Rattle.forms.specs.Replies.{row_says}
use Rattle.forms.specs.declared.contents.Heading.{Heading}
use Rattle.groups.specs.Groups.{heading_at, any_below}
use Rattle.book.specs.Book.{Book}
use Rattle.book.specs.Questions.{unfinished_at, verdict_answer, row_answer, row_buffer}

among : (b : Book) (k n : ℕ) → k < n → unfinished_at b k ≡ true → any_below (unfinished_at b) n ≡ true
among b k zero h at = absurd (omega (arith, h))
among b k (suc n) h at =
    elim (cases_eq k n) [
      | inl e ↦ rw (← e, at)
      | inr e ↦ rw (among b k n (omega arith) at, or-true)
    ]

-- a day with an unfinished group is not finished
pub unfinished-verdict : (b : Book) (k n : ℕ) → n ≡ length b.groups → k < n → unfinished_at b k ≡ true → 1 ≡ verdict_answer b
unfinished-verdict b k n all h at =
    rw (ne_eqb (length b.groups) 0 (λ e. omega (arith, e, all, h)), among b k (length b.groups) (omega (arith, all, h)) at)

-- an entry of the day v, as it is opened, is written as the row of b, as it is closed
pub row-written : (v b : Book) (i : ℕ) (e : Entry) (buf new : List ℕ) (h : Heading) (g n : ℕ) → v ≡ b → slice_get v.rows i ≡ Some e → v.records.row_length ≤ length buf → g ≡ e.group → h ≡ heading_at v.opened.broker v.opened.date v.groups g → n ≡ 0
    → new ≡ spliced buf n (record_of (λ f. row_says (record { heading = h; entry = e }) f.item) v.records.row)
    → new ≡ row_buffer (row_answer b i (length buf)) buf
row-written v b i e buf new h g n same read room number heading front written =
    let P : Book → Type 0 = λ x. new ≡ row_buffer (row_answer x i (length buf)) buf in
    subst P same (rw (le-ltb (length buf) v.records.row_length room, read) (rw (heading, number, front) at written))
