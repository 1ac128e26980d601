-- The law of sums, by what every run of calls keeps.
use Rattle.std.proofs.Common.{◌≡◌, ◌≢◌, ℕ, ◌≤◌, Bool, true, false, cond, not, ◌&&◌, eqb, ltb, leb, List, [], ◌∷◌, ◌++◌, length, Some, None, Ok, Err, is_some, Option, Result, MatchOption, option_map, codes, refl, sym, ap, subst, ◌∙◌, arith, append_assoc, append-nil}
use Rattle.std.specs.Str.{bytes_eq}
use Rattle.std.specs.List.{AllByRecursion, AllPairs, slice_get}
use Rattle.std.proofs.lemmas.Bool.{eqb-true, eq-eqb, leb-true, and_parts, and_from}
use Rattle.std.proofs.lemmas.Option.{slice_get-map}
use Rattle.octets.specs.Digits.{number_in}
use Rattle.octets.specs.Dates.{real_date}
use Rattle.octets.specs.Options.{and_then}
use Rattle.octets.specs.Splice.{spliced}
use Rattle.lots.specs.Units.{shares_in}
use Rattle.lots.specs.declared.units.Cents.{Cents}
use Rattle.lots.specs.declared.units.Shares.{Shares}
use Rattle.layout.specs.Layouts.{told}
use Rattle.layout.specs.declared.field.Field.{Field}
use Rattle.layout.specs.declared.field.Item.TheVariants.{Quantity, Amount, Security, Code as CodeItem}
use Rattle.ledger.specs.Lent.{Lent}
use Rattle.ledger.specs.declared.row.Entry.{Entry}
use Rattle.families.specs.Families.{tiled, consistent}
use Rattle.families.specs.Lines.{broker_of}
use Rattle.families.specs.Tables.{total_row as total_layout}
use Rattle.families.specs.declared.family.Form.{Form}
use Rattle.families.specs.declared.family.Form.TheVariants.{Line}
use Rattle.families.specs.declared.family.Rules.{Rules}
use Rattle.families.specs.Parts.{GroupParts, FilingParts}
use Rattle.forms.specs.Said.{Said, said, filing, deletion, retention, heading_in, filing_in, retention_in}
use Rattle.forms.specs.Totals.{group_in}
use Rattle.forms.specs.declared.contents.GroupName.{GroupName}
use Rattle.forms.specs.declared.telling.NotTold.{NotTold}
use Rattle.forms.specs.declared.telling.NotTold.TheVariants.{Length as WrongLength, Code as WrongCode}
use Rattle.groups.specs.Groups.{place_at, place_of}
use Rattle.groups.specs.declared.kept.Group.{Group}
use Rattle.groups.specs.declared.kept.Place.{Place}
use Rattle.judge.specs.Grounds.{first_of}
use Rattle.judge.specs.Heading.{not_opened}
use Rattle.judge.specs.Totals.{TotalAsked, total_terms, asked_plainly}
use Rattle.judge.proofs.Firsts.{none_all}
use Rattle.judge.specs.declared.grounds.Ground.{Ground}
use Rattle.judge.specs.declared.grounds.Ground.TheVariants.{LineLength, ReplyRoom}
use Rattle.judge.specs.declared.heading.Opened.{Opened}
use Rattle.lines.specs.Open.{standing_at}
use Rattle.lines.specs.declared.open.Standing.{Standing}
use Rattle.lines.specs.declared.open.State.{State}
use Rattle.lines.specs.declared.open.State.TheVariants.{Unfinished, Complete, Retained}
use Rattle.book.specs.Book.{Book, Records, Outcome, records_by, opened_book, refused_alone}
use Rattle.book.specs.Calls.{Call, total, total_row, line, figures, verdict, row, after, run}
use Rattle.book.specs.Heard.{Heard, heard, answer_of, buffer_of, call_heard, noted, tallied, pieces_said, pieces_of_call, pieces_heard}
use Rattle.book.specs.Held.{Runs, shares_held, worth_held}
use Rattle.book.specs.Law.{Held, Open, Sums, Balanced, unit_at}
use Rattle.book.specs.Lines.{refused, done_with, filed_by, filed_grounds, filing_grounds, filing_outcome, entered, filing_done, row_grounds, deletion_grounds, deleted, deletion_done, retention_grounds_in, retained_in, said_outcome, line_said}
use Rattle.book.specs.Questions.{figures_answer, figures_of}
use Rattle.book.specs.Tally.{Tally, nothing, unit_of, line_heard, row_heard}
use Rattle.book.specs.Totals.{asked_by_row, row_terms, total_grounds_in, totalled, total_outcome}
use Rattle.book.proofs.Both.{held-both, worth-both, filed_is_held, amount_is_held}
use Rattle.book.proofs.FilingStep.{filing_step}
use Rattle.book.proofs.Judged.{names_none, target_none}
use Rattle.book.proofs.Numbers.{rising-differ}
use Rattle.book.proofs.Passed.{headed}
use Rattle.book.proofs.DeletionStep.{deletion_step}
use Rattle.book.proofs.RetentionStep.{retention_step}
use Rattle.book.proofs.Rows.{OfKinds, shares-held, worth-held, run-each}
use Rattle.book.proofs.Sound.{Placed, Sound, unit_in, shares_both, worth_both}
use Rattle.book.proofs.Sums.{all_weaker}
use Rattle.book.proofs.TotalStep.{total_step}

-- a line told as a filing is told by its parts
filing_told : (fs : List Field) (extent : ℕ) (retains : Bool) (l : List ℕ) (p : FilingParts) → said fs extent retains l ≡ Ok (filing p) → filing_in fs l ≡ p
filing_told fs extent retains l p h = go (eqb (length l) extent) (bytes_eq (told fs CodeItem l) (codes "2")) (bytes_eq (told fs CodeItem l) (codes "1")) (retains && bytes_eq (told fs Security l) (codes "ZZZZZZ")) h
  where
    go : (a b c d : Bool) → cond a (cond b (Ok (deletion (heading_in fs l))) (cond c (cond d (Ok (retention (retention_in fs l))) (Ok (filing (filing_in fs l)))) (Err WrongCode))) (Err WrongLength) ≡ Ok (filing p) → filing_in fs l ≡ p
    go false b c d h = cc
    go true true c d h = cc
    go true false false d h = cc
    go true false true true h = cc
    go true false true false h = cc

-- what a call leaves
record After (b : Book) (t : Tally) (pieces : List (List ℕ)) (rules : Rules) (records : Records) : Type 0 where
  sound : Sound b t pieces
  same_rules : b.rules ≡ rules
  same_records : b.records ≡ records

module _ (layout : Form → List Field) (extent : Form → ℕ) (fit : tiled layout extent ≡ true) where
  module _ (b : Book) (t : Tally) (pieces : List (List ℕ)) (S : Sound b t pieces) (alike : consistent b.rules layout ≡ true) (records : b.records ≡ records_by layout extent) where
    -- what tells no piece, and what is refused changes nothing
    pieceless : {v : Book} {u : Tally} → Sound v u pieces → v.rules ≡ b.rules → v.records ≡ b.records → After v u (pieces ++ []) b.rules b.records
    pieceless {v} {u} s e f = record { sound = subst (Sound v u) (sym (append-nil pieces)) s; same_rules = e; same_records = f }

    unchanged : After b t (pieces ++ []) b.rules b.records
    unchanged = pieceless S refl refl

    abbrev AfterLine : Outcome → Result Said NotTold → List ℕ → Type 0
    AfterLine o s buffer =
        After o.book (elim o.answer as (λ _. Tally) [ Ok n ↦ line_heard b.rules s t | Err g ↦ t ])
        (pieces ++ elim o.answer as (λ _. List (List ℕ)) [ Ok n ↦ pieces_said b.records s n (spliced buffer 0 o.replies) | Err g ↦ [] ]) b.rules b.records

    judged_step : (bytes : List ℕ) (s : Result Said NotTold) (buffer : List ℕ) (accepted : Outcome) (r : Option Ground) → (r ≡ None → AfterLine accepted s buffer) → AfterLine (elim r as (λ _. Outcome) [ Some g ↦ refused b bytes g | None ↦ accepted ]) s buffer
    judged_step bytes s buffer accepted (Some g) h = unchanged
    judged_step bytes s buffer accepted None h = h refl

    said_step : (bytes : List ℕ) (clock : ℕ) (buffer : List ℕ) → length bytes ≡ b.records.line_length → (s : Result Said NotTold) → line_said b bytes ≡ s → AfterLine (said_outcome b bytes s clock (length buffer)) s buffer
    said_step bytes clock buffer long (Ok (filing p)) e =
        let at : filing_in (layout Line) bytes ≡ p = ap (λ x. filing_in x.line bytes) (sym records) ∙ filing_told b.records.line b.records.line_length b.rules.retains bytes p e in
        let whole : length bytes ≡ extent Line = long ∙ ap (λ x. x.line_length) records in
        subst (λ q. AfterLine (filing_outcome b bytes q clock (length buffer)) (Ok (filing q)) buffer) at
        (judged_step bytes (Ok (filing (filing_in (layout Line) bytes))) buffer (filing_done b bytes (filing_in (layout Line) bytes)) (first_of (filing_grounds b (filing_in (layout Line) bytes) clock (length buffer))) (λ none.
        let q = filing_in (layout Line) bytes in
        let asked = filed_grounds b (filed_by b q) (length buffer) in
        let H = headed b q.heading clock (names_none b q.heading clock asked none) in
        subst (λ o. AfterLine (done_with b bytes o (entered b bytes (filed_by b q))) (Ok (filing q)) buffer) (sym H.1.target)
        (record {
          sound = filing_step layout extent b t pieces S fit alike records bytes whole H.0 H.1 (length buffer) (target_none b q.heading clock asked H.0 H.1.target none) buffer;
          same_rules = refl;
          same_records = refl;
        })))
    said_step bytes clock buffer long (Ok (deletion p)) e = judged_step bytes (Ok (deletion p)) buffer (deletion_done b bytes p) (first_of (deletion_grounds b p clock)) (λ none.
        let H = headed b p clock (names_none b p clock (row_grounds b) none) in
        subst (λ o. AfterLine (done_with b bytes o (deleted b bytes)) (Ok (deletion p)) buffer) (sym H.1.target)
        (pieceless (deletion_step b t pieces S bytes p H.0 H.1) refl refl))
    said_step bytes clock buffer long (Ok (retention p)) e = judged_step bytes (Ok (retention p)) buffer (retained_in b p) (first_of (retention_grounds_in b p clock (length buffer))) (λ none. pieceless (retention_step b t pieces S p clock (length buffer) none) refl refl)
    said_step bytes clock buffer long (Err x) e = unchanged

    room_step : (bytes : List ℕ) (clock : ℕ) (buffer : List ℕ) → length bytes ≡ b.records.line_length → (c : Bool) → AfterLine (cond c (refused_alone b ReplyRoom) (said_outcome b bytes (line_said b bytes) clock (length buffer))) (line_said b bytes) buffer
    room_step bytes clock buffer long true = unchanged
    room_step bytes clock buffer long false = said_step bytes clock buffer long (line_said b bytes) refl

    line_step : (bytes : List ℕ) (clock : ℕ) (buffer : List ℕ) (c : Bool) → eqb (length bytes) b.records.line_length ≡ c → AfterLine (cond c (cond (ltb (length buffer) b.records.reply_length) (refused_alone b ReplyRoom) (said_outcome b bytes (line_said b bytes) clock (length buffer))) (refused_alone b LineLength)) (line_said b bytes) buffer
    line_step bytes clock buffer true e = room_step bytes clock buffer (eqb-true (length bytes) b.records.line_length e) (ltb (length buffer) b.records.reply_length)
    line_step bytes clock buffer false e = unchanged

    abbrev AfterTotal : Outcome → Tally → Type 0
    AfterTotal o told = After o.book (elim o.answer as (λ _. Tally) [ Ok n ↦ told | Err g ↦ t ]) (pieces ++ elim o.answer as (λ _. List (List ℕ)) [ Ok n ↦ [] | Err g ↦ [] ]) b.rules b.records

    asked_step : (a : TotalAsked) (told : Tally) (r : Option Ground) → (r ≡ None → Sound (totalled b a).book told pieces) → AfterTotal (elim r as (λ _. Outcome) [ Some g ↦ refused_alone b g | None ↦ totalled b a ]) told
    asked_step a told (Some g) h = unchanged
    asked_step a told None h = pieceless (h refl) refl refl

    no_terms : (bytes : List ℕ) (unit : ℕ) → first_of (total_grounds_in b (asked_by_row b bytes unit)) ≡ None → row_terms bytes unit ≡ None → ⊥
    no_terms bytes unit none e =
        let f : not (is_some (row_terms bytes unit)) ≡ false = (none_all (total_grounds_in b (asked_by_row b bytes unit)) none).1.1.1.1.1.1.1.1.0 in
        let g : not (is_some (row_terms bytes unit)) ≡ true = ap (λ o. not (is_some o)) e in
        cc

    -- a row's terms are told by its two numbers
    terms_read : (bytes : List ℕ) (unit : ℕ) (q m : Option ℕ) → number_in (told total_layout Quantity bytes) ≡ q → number_in (told total_layout Amount bytes) ≡ m → row_terms bytes unit ≡ and_then q (λ x. and_then m (λ y. total_terms unit x y))
    terms_read bytes unit q m e f = λ j. and_then (e j) (λ x. and_then (f j) (λ y. total_terms unit x y))

    -- a row's numbers were read, where no ground applies
    row_read : (bytes : List ℕ) (unit : ℕ) (q m : Option ℕ) → number_in (told total_layout Quantity bytes) ≡ q → number_in (told total_layout Amount bytes) ≡ m → first_of (total_grounds_in b (asked_by_row b bytes unit)) ≡ None → Sound (totalled b (asked_by_row b bytes unit)).book (row_heard b.rules bytes q m unit t) pieces
    row_read bytes unit (Some q) (Some m) e f none = total_step b t pieces S (asked_by_row b bytes unit) none unit q m (terms_read bytes unit (Some q) (Some m) e f)
    row_read bytes unit None m e f none = absurd (no_terms bytes unit none (terms_read bytes unit None m e f))
    row_read bytes unit (Some q) None e f none = absurd (no_terms bytes unit none (terms_read bytes unit (Some q) None e f))

    row_step : (bytes : List ℕ) (unit : ℕ) (c : Bool) → AfterTotal (cond c (total_outcome b (asked_by_row b bytes unit)) (refused_alone b LineLength)) (row_heard b.rules bytes (number_in (told total_layout Quantity bytes)) (number_in (told total_layout Amount bytes)) unit t)
    row_step bytes unit true = asked_step (asked_by_row b bytes unit) (row_heard b.rules bytes (number_in (told total_layout Quantity bytes)) (number_in (told total_layout Amount bytes)) unit t) (first_of (total_grounds_in b (asked_by_row b bytes unit))) (λ none. row_read bytes unit (number_in (told total_layout Quantity bytes)) (number_in (told total_layout Amount bytes)) refl refl none)
    row_step bytes unit false = unchanged

    abbrev what : Call → Heard
    what c = record { call = c; answer = answer_of b c; buffer = buffer_of b c }

    step : (c : Call) → After (after b c) (noted b.rules b.records t (what c)) (pieces ++ pieces_of_call b.records b.rules.retains (what c)) b.rules b.records
    step (total p) =
        asked_step (asked_plainly p) (call_heard b.rules b.records (total p) t) (first_of (total_grounds_in b (asked_plainly p)))
        (λ none. total_step b t pieces S (asked_plainly p) none p.unit p.quantity p.amount refl)
    step (total_row bytes unit) = row_step bytes unit (eqb (length bytes) 80)
    step (line bytes clock buffer) = line_step bytes clock buffer (eqb (length bytes) b.records.line_length) refl
    step (figures g) = unchanged
    step verdict = unchanged
    step (row i buffer) = unchanged

  -- every run
  run_sound : (rules : Rules) (alike : consistent rules layout ≡ true) (b : Book) (t : Tally) (pieces : List (List ℕ)) → Sound b t pieces → b.rules ≡ rules → b.records ≡ records_by layout extent → (cs : List Call)
      → Sound (run b cs) (tallied rules (records_by layout extent) t (heard b cs)) (pieces ++ pieces_heard (records_by layout extent) rules.retains (heard b cs))
  run_sound rules alike b t pieces S e f [] = subst (λ l. Sound b t l) (sym (append-nil pieces)) S
  run_sound rules alike b t pieces S e f (c ∷ cs) =
      let h = what b t pieces S (subst (λ r. consistent r layout ≡ true) (sym e) alike) f c in
      let A = step b t pieces S (subst (λ r. consistent r layout ≡ true) (sym e) alike) f c in
      let A' : After (after b c) (noted rules (records_by layout extent) t h) (pieces ++ pieces_of_call (records_by layout extent) rules.retains h) rules (records_by layout extent) =
      subst (λ s. After (after b c) (noted rules s t h) (pieces ++ pieces_of_call s rules.retains h) rules s) f
      (subst (λ r. After (after b c) (noted r b.records t h) (pieces ++ pieces_of_call b.records r.retains h) r b.records) e A) in
      subst (λ l. Sound (run (after b c) cs) (tallied rules (records_by layout extent) (noted rules (records_by layout extent) t h) (heard (after b c) cs)) l) (append_assoc pieces (pieces_of_call (records_by layout extent) rules.retains h) (pieces_heard (records_by layout extent) rules.retains (heard (after b c) cs)))
      (run_sound rules alike (after b c) (noted rules (records_by layout extent) t h) (pieces ++ pieces_of_call (records_by layout extent) rules.retains h) A'.sound A'.same_rules A'.same_records cs)

-- What is kept gives the law.
module _ (b : Book) (t : Tally) (pieces : List (List ℕ)) (S : Sound b t pieces) where
  -- the group of a name in the tally
  group_of : (n : ℕ) (name : GroupName) → slice_get t.groups n ≡ Some name → (g : Group) × ((slice_get b.groups n ≡ Some g) × (g.name ≡ name))
  group_of n name h = go (slice_get b.groups n) refl (sym (slice_get-map (λ (g : Group). g.name) b.groups n) ∙ ap (λ l. slice_get l n) (sym S.names) ∙ h)
    where
      go : (o : Option Group) → slice_get b.groups n ≡ o → option_map (λ (g : Group). g.name) o ≡ Some name → (g : Group) × ((slice_get b.groups n ≡ Some g) × (g.name ≡ name))
      go (Some g) e k = (g, (e, cc))
      go None e k = cc

  kinds : AllByRecursion OfKinds b.rows
  kinds = all_weaker (Placed b.records b.opened b.groups pieces) OfKinds (λ e p. p.kinds) b.rows S.rows

  module _ (n : ℕ) (g : Group) (p : slice_get b.groups n ≡ Some g) where
    shares_is : shares_held n (unit_of g.name t.totals) b.rows ≡ shares_both n g.size b.rows
    shares_is = ap (λ u. shares_held n u b.rows) (S.known n g p).unit ∙ shares-held n (shares_in g.size) b.rows kinds

    worth_is : worth_held n (unit_of g.name t.totals) b.rows ≡ worth_both n g.size b.rows
    worth_is = ap (λ u. worth_held n u b.rows) (S.known n g p).unit ∙ worth-held n (shares_in g.size) b.rows kinds

    held_at : Held t b.rows n g.name
    held_at = record {
      shares = shares_is ∙ sym (filed_is_held b.rows t n g (S.kept n g p));
      amount = worth_is ∙ sym (amount_is_held b.rows t n g (S.kept n g p));
    }

    abbrev stood : Standing
    stood = standing_at b.totals b.rows n g

    open_at : Open t b.rows n g.name (figures_of stood)
    open_at =
        let o = S.known n g p in
        let k = S.kept n g p in
        let a = shares_is in
        let c = worth_is in
        let d = held-both n g.size b.rows in
        let e = worth-both n g.size b.rows in
        record {
          shares = omega (arith, k.held_shares, o.shares);
          amount = omega (arith, k.held_amount, o.amount);
          complete = (done (g.retained) (eqb stood.open_shares.count 0 && eqb stood.open_amount.count 0) refl, undone (g.retained) refl);
        }
      where
        done : (r z : Bool) → (eqb stood.open_shares.count 0 && eqb stood.open_amount.count 0) ≡ z → cond r Retained (cond z Complete Unfinished) ≡ Complete → (stood.open_shares.count ≡ 0) × (stood.open_amount.count ≡ 0)
        done true z e h = cc
        done false false e h = cc
        done false true e h =
            let q = and_parts (eqb stood.open_shares.count 0) (eqb stood.open_amount.count 0) e in
            (eqb-true stood.open_shares.count 0 q.0, eqb-true stood.open_amount.count 0 q.1)

        undone : (r : Bool) → g.retained ≡ r → (stood.open_shares.count ≡ 0) × (stood.open_amount.count ≡ 0) → cond r Retained (cond (eqb stood.open_shares.count 0 && eqb stood.open_amount.count 0) Complete Unfinished) ≡ Complete
        undone true e h =
            let o = S.known n g p in
            let z = (S.kept n g p).retained e in
            let d = held-both n g.size b.rows in
            absurd (omega (arith, h.0, z, o.shares, o.some_traded))
        undone false e h = ap (λ c. cond c Complete Unfinished) (and_from (eqb stood.open_shares.count 0) (eqb stood.open_amount.count 0) (eq-eqb stood.open_shares.count 0 h.0) (eq-eqb stood.open_amount.count 0 h.1))

    told_at : (of : GroupParts) → group_in b.rules of ≡ Ok g.name → figures_answer b of ≡ Some (figures_of stood)
    told_at of h =
        ap (λ r. option_map told (elim r [ Ok name ↦ place_of name b.groups | Err bad ↦ None ])) h
        ∙ ap (λ o. option_map told (and_then o (place_at b.groups))) (S.found n g p)
        ∙ ap (λ o. option_map told (option_map (λ x. let y : Place = record { number = n; group = x } in y) o)) p
      where
        told : Place → Shares × Cents × State
        told m = figures_of (standing_at b.totals b.rows m.number m.group)

  row_at : (rows before : List Entry) (e : Entry) (behind : List Entry) → AllByRecursion (Placed b.records b.opened b.groups pieces) rows → rows ≡ before ++ e ∷ behind → Placed b.records b.opened b.groups pieces e
  row_at [] [] e behind h q = cc
  row_at [] (x ∷ xs) e behind h q = cc
  row_at (r ∷ rs) [] e behind h q =
      let x : r ≡ e = cc in
      subst (Placed b.records b.opened b.groups pieces) x h.0
  row_at (r ∷ rs) (x ∷ xs) e behind h q =
      let y : rs ≡ xs ++ e ∷ behind = cc in
      row_at rs xs e behind h.1 y

  -- a row's group is one of the tally's
  named : (e : Entry) (q : Placed b.records b.opened b.groups pieces e) → slice_get t.groups e.group ≡ Some q.group.name
  named e q = ap (λ l. slice_get l e.group) S.names ∙ slice_get-map (λ (g : Group). g.name) b.groups e.group ∙ ap (option_map (λ (g : Group). g.name)) q.place

  unit_is : (e : Entry) → Placed b.records b.opened b.groups pieces e → unit_in b.groups e.group ≡ unit_at t e.group
  unit_is e q =
      ap (λ o. elim o [ Some g ↦ shares_in g.size | None ↦ 0 ]) q.place
      ∙ sym (S.known e.group q.group q.place).unit
      ∙ sym (ap (λ o. elim o [ Some name ↦ unit_of name t.totals | None ↦ 0 ]) (named e q))

  pub sums : Sums b t pieces
  sums = record {
    held = λ n name h.
        let w = group_of n name h in
        subst (λ m. Held t b.rows n m) w.1.1 (held_at n w.0 w.1.0);
    open_told = λ of n name k h.
        let w = group_of n name h in
        let r : group_in b.rules of ≡ Ok w.0.name = k ∙ ap Ok (sym w.1.1) in
        let o : Open t b.rows n name (figures_of (standing_at b.totals b.rows n w.0)) = subst (λ m. Open t b.rows n m (figures_of (standing_at b.totals b.rows n w.0))) w.1.1 (open_at n w.0 w.1.0) in
        subst (λ x. MatchOption x ⊥ (Open t b.rows n name)) (sym (told_at n w.0 w.1.0 of r)) o;
    placed = λ before e behind q.
        let r = row_at b.rows before e behind S.rows q in
        (r.group.name, named e r);
    answered = λ before e behind q. (row_at b.rows before e behind S.rows q).answered;
    numbers = subst (λ l. AllPairs (λ x y. x ≢ y) l) (sym S.issued.told) (rising-differ 0 b.next S.issued.numbers S.issued.rising);
    running = λ before e behind q. subst (λ u. Runs u before e) (unit_is e (row_at b.rows before e behind S.rows q)) (run-each (unit_in b.groups) [] b.rows before e behind S.running q);
  }

-- A day newly opened keeps it.
first_fits : (c : Bool) (broker date first : ℕ) → (c ≡ true → first ≤ 99999999) → (cond c (let o : Opened = record { good = true; broker = broker; date = date; first = first } in o) not_opened).first ≤ 100000000
first_fits true broker date first h =
    let k = h refl in
    omega (arith, k)
first_fits false broker date first h = omega arith

opens_within : (o : Option ℕ) (date first : ℕ) → (elim o as (λ _. Opened) [ Some code ↦ cond (real_date date && leb first 99999999) (record { good = true; broker = code; date = date; first = first }) not_opened | None ↦ not_opened ]).first ≤ 100000000
opens_within (Some code) date first = first_fits (real_date date && leb first 99999999) code date first (λ e. leb-true first 99999999 (and_parts (real_date date) (leb first 99999999) e).1)
opens_within None date first = omega arith

opened_sound : (rules : Rules) (records : Records) (capacity : ℕ) (lent : Lent) (broker : List ℕ) (date first : ℕ) → Sound (opened_book rules records capacity lent broker date first) nothing []
opened_sound rules records capacity lent broker date first = record {
  names = refl;
  found = λ n g p. cc;
  known = λ n g p. cc;
  kept = λ n g p. cc;
  unknown = λ name h. (refl, refl);
  placed = tt;
  rows = tt;
  running = tt;
  issued = record { numbers = []; told = refl; rising = omega arith; few = opens_within (broker_of broker) date first };
}

-- The law of sums, after any list of calls.
pub balanced : (rules : Rules) (layout : Form → List Field) (extent : Form → ℕ) → tiled layout extent ≡ true → consistent rules layout ≡ true → (capacity : ℕ) (lent : Lent) (broker : List ℕ) (date first : ℕ) (calls : List Call) → Balanced (opened_book rules (records_by layout extent) capacity lent broker date first) calls
balanced rules layout extent fit alike capacity lent broker date first calls =
    let b = opened_book rules (records_by layout extent) capacity lent broker date first in
    sums (run b calls) (tallied rules (records_by layout extent) nothing (heard b calls)) (pieces_heard (records_by layout extent) rules.retains (heard b calls))
    (run_sound layout extent fit rules alike b nothing [] (opened_sound rules (records_by layout extent) capacity lent broker date first) refl refl calls)
