-- No call of a day changes its ledger's capacity, or what of the ledger's memory it keeps.
use Rattle.std.proofs.Common.{◌≡◌, ℕ, Bool, true, false, cond, eqb, ltb, List, [], ◌∷◌, length, Some, None, Ok, Err, Option, Result, refl, ap, ◌∙◌}
use Rattle.forms.specs.Said.{Said, filing, deletion, retention}
use Rattle.forms.specs.declared.telling.NotTold.{NotTold}
use Rattle.judge.specs.Grounds.{first_of}
use Rattle.judge.specs.Totals.{TotalAsked, asked_plainly}
use Rattle.judge.specs.declared.grounds.Ground.{Ground}
use Rattle.judge.specs.declared.grounds.Ground.TheVariants.{LineLength, ReplyRoom}
use Rattle.judge.specs.declared.heading.Target.{Target}
use Rattle.book.specs.Book.{Book, Outcome, CameTo, refused_alone}
use Rattle.book.specs.Calls.{Call, total, total_row, line, figures, verdict, row, after, run}
use Rattle.book.specs.Lines.{refused, target_in, done_with, filed_by, filing_grounds, entered, deletion_grounds, deleted, retention_grounds_in, retained_in, line_said, said_outcome}
use Rattle.book.specs.Totals.{asked_by_row, total_grounds_in, totalled, total_outcome}

pub record Same (b v : Book) : Type 0 where
  pub room : v.capacity ≡ b.capacity
  pub lent : v.lent ≡ b.lent

module _ (b : Book) where
  itself : Same b b
  itself = record { room = refl; lent = refl }

  abbrev Leaves : Outcome → Type 0
  Leaves o = Same b o.book

  asked : (a : TotalAsked) (r : Option Ground) → Leaves (elim r as (λ _. Outcome) [ Some g ↦ refused_alone b g | None ↦ totalled b a ])
  asked a (Some g) = itself
  asked a None = record { room = refl; lent = refl }

  asked_row : (bytes : List ℕ) (unit : ℕ) (c : Bool) → Leaves (cond c (total_outcome b (asked_by_row b bytes unit)) (refused_alone b LineLength))
  asked_row bytes unit true = asked (asked_by_row b bytes unit) (first_of (total_grounds_in b (asked_by_row b bytes unit)))
  asked_row bytes unit false = itself

  module _ (bytes : List ℕ) where
    by_ground : (o : Outcome) (r : Option Ground) → Leaves o → Leaves (elim r as (λ _. Outcome) [ Some g ↦ refused b bytes g | None ↦ o ])
    by_ground o (Some g) h = itself
    by_ground o None h = h

    by_target : (o : Option Target) (does : Target → Outcome) → ((t : Target) → Leaves (does t)) → Leaves (done_with b bytes o does)
    by_target (Some t) does h = h t
    by_target None does h = itself

    by_said : (s : Result Said NotTold) (clock space : ℕ) → Leaves (said_outcome b bytes s clock space)
    by_said (Ok (filing p)) clock space = by_ground _ (first_of (filing_grounds b p clock space)) (by_target (target_in b p.heading) (entered b bytes (filed_by b p)) (λ t. record { room = refl; lent = refl }))
    by_said (Ok (deletion h)) clock space = by_ground _ (first_of (deletion_grounds b h clock)) (by_target (target_in b h) (deleted b bytes) (λ t. record { room = refl; lent = refl }))
    by_said (Ok (retention p)) clock space = by_ground (retained_in b p) (first_of (retention_grounds_in b p clock space)) (record { room = refl; lent = refl })
    by_said (Err e) clock space = itself

    -- so neither does what came of a line
    pub came_kept : (r : Result ℕ Ground) (s : Result Said NotTold) (clock space : ℕ) (after : Book) (buffer written : List ℕ) → CameTo r (said_outcome b bytes s clock space) b after buffer written → Same b after
    came_kept (Ok n) s clock space after buffer written h =
        let k = by_said s clock space in
        record { room = ap (λ (v : Book). v.capacity) h.1.0 ∙ k.room; lent = ap (λ (v : Book). v.lent) h.1.0 ∙ k.lent }
    came_kept (Err g) s clock space after buffer written h = record { room = ap (λ (v : Book). v.capacity) h.0; lent = ap (λ (v : Book). v.lent) h.0 }

    by_length : (c d : Bool) (o : Outcome) → Leaves o → Leaves (cond c (cond d (refused_alone b ReplyRoom) o) (refused_alone b LineLength))
    by_length true true o h = itself
    by_length true false o h = h
    by_length false d o h = itself

  after_call : (c : Call) → Same b (after b c)
  after_call (total t) = asked (asked_plainly t) (first_of (total_grounds_in b (asked_plainly t)))
  after_call (total_row bytes unit) = asked_row bytes unit (eqb (length bytes) 80)
  after_call (line bytes clock buffer) = by_length bytes (eqb (length bytes) b.records.line_length) (ltb (length buffer) b.records.reply_length) (said_outcome b bytes (line_said b bytes) clock (length buffer)) (by_said bytes (line_said b bytes) clock (length buffer))
  after_call (figures g) = itself
  after_call verdict = itself
  after_call (row i buffer) = itself

pub after_run : (b : Book) (cs : List Call) → Same b (run b cs)
after_run b [] = record { room = refl; lent = refl }
after_run b (c ∷ cs) =
    let one = after_call b c in
    let rest = after_run (after b c) cs in
    record { room = rest.room ∙ one.room; lent = rest.lent ∙ one.lent }
