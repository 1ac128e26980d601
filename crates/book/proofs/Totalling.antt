-- An accepted total keeps what every run keeps.
use Rattle.std.proofs.Common.{◌≡◌, ℕ, ◌+◌, ◌<◌, Bool, true, false, cond, eqb, List, [], ◌∷◌, ◌++◌, length, Some, None, Option, sum_by, ◌⊎◌, inl, inr, refl, sym, ap, subst, ◌∙◌, arith, length-append}
use Rattle.std.proofs.lemmas.List.{map-append}
use Rattle.std.specs.List.{AllByRecursion, slice_get}
use Rattle.std.proofs.lemmas.List.Sums.{sum_by_push}
use Rattle.std.proofs.lemmas.Bool.{cond-true, cond-false, eq-eqb, ne_eqb, or_parts, and_left}
use Rattle.std.proofs.lemmas.Option.{slice_get_within}
use Rattle.lots.specs.Units.{kind_number, shares_in}
use Rattle.lots.specs.declared.units.Kind.{Kind}
use Rattle.lots.specs.declared.units.UnitSize.{UnitSize}
use Rattle.lots.specs.declared.units.Kind.TheVariants.{BoardLot}
use Rattle.lots.proofs.Figures.{unit_range}
use Rattle.ledger.specs.Rows.{of_kind}
use Rattle.ledger.specs.declared.row.Entry.{Entry}
use Rattle.layout.specs.Layouts.{record_of}
use Rattle.forms.specs.Replies.{row_says}
use Rattle.forms.specs.declared.contents.GroupName.{GroupName}
use Rattle.groups.specs.Groups.{same_name, number_of, nobody, some}
use Rattle.groups.specs.Sums.{shares_for, cents_for}
use Rattle.groups.specs.declared.kept.Group.{Group}
use Rattle.groups.specs.declared.kept.Total.{Total}
use Rattle.book.specs.Answered.{Answered}
use Rattle.lines.specs.Entries.{row_worth}
use Rattle.book.specs.Book.{Book}
use Rattle.book.specs.Held.{Runs}
use Rattle.book.specs.Tally.{Tally, Traded, Filed, unit_of, traded_shares, traded_amount, is_of}
use Rattle.book.proofs.Sums.{all_append, all_weaker, sum_by-none}
use Rattle.book.proofs.Names.{at_place, other_names, same_as_itself, number-push_some, number-push_none, get-push, get-push_cases, last_one}
use Rattle.book.proofs.Rows.{sum_of, shares_of, AllRun}
use Rattle.book.proofs.Sound.{Known, Kept, Placed, Sound, total_for, filing_for, bytes_of, unit_in, same_number, unit-push, unit-new, sum_of_none, some-push}

abbrev pub with_total : Book → Total → Book
with_total b x = record b { totals = b.totals ++ x ∷ [] }

abbrev pub with_told : Tally → Traded → Tally
with_told t y = record t { totals = t.totals ++ y ∷ [] }

one_more : (same other : Bool) (v w : ℕ) → same ≡ other → v ≡ w → cond same v 0 ≡ cond other w 0
one_more same other v w e f = ap (λ b. cond b v 0) e ∙ ap (λ n. cond other n 0) f

module _ (b : Book) (t : Tally) (pieces : List (List ℕ)) (S : Sound b t pieces) (name : GroupName) (x : Total) (y : Traded) (named : y.group ≡ name) (shares : y.shares ≡ x.shares.count) (amount : y.amount ≡ x.amount.count) where
  -- the sums of a name's totals and of a group's, with one more
  traded_more : (other : GroupName) → (traded_shares other (t.totals ++ y ∷ []) ≡ traded_shares other t.totals + cond (same_name y.group other) y.shares 0) × (traded_amount other (t.totals ++ y ∷ []) ≡ traded_amount other t.totals + cond (same_name y.group other) y.amount 0)
  traded_more other = (sum_by_push (λ z. cond (same_name z.group other) z.shares 0) t.totals y, sum_by_push (λ z. cond (same_name z.group other) z.amount 0) t.totals y)

  totals_more : (n : ℕ) → (sum_by (shares_for n) (b.totals ++ x ∷ []) ≡ sum_by (shares_for n) b.totals + shares_for n x) × (sum_by (cents_for n) (b.totals ++ x ∷ []) ≡ sum_by (cents_for n) b.totals + cents_for n x)
  totals_more n = (sum_by_push (shares_for n) b.totals x, sum_by_push (cents_for n) b.totals x)

  -- a group that had totals before keeps what is known of it
  known_more : (n : ℕ) (g : Group) → slice_get b.groups n ≡ Some g → same_name y.group g.name ≡ eqb x.group n → Known (b.totals ++ x ∷ []) (t.totals ++ y ∷ []) n g
  known_more n g p same =
      let k = S.known n g p in
      let a = traded_more g.name in
      let d = totals_more n in
      let o = one_more (same_name y.group g.name) (eqb x.group n) y.shares x.shares.count same shares in
      let q = one_more (same_name y.group g.name) (eqb x.group n) y.amount x.amount.count same amount in
      let u : 0 < unit_of g.name t.totals = subst (λ v. 0 < v) (sym k.unit) (unit_range BoardLot g.size).0 in
      record {
        unit = unit-push g.name t.totals y u ∙ k.unit;
        shares = omega (arith, k.shares);
        amount = omega (arith, k.amount);
        some_traded = omega (arith, k.some_traded);
      }

  kept_more : (n : ℕ) (g : Group) → slice_get b.groups n ≡ Some g → Kept b.rows (t.totals ++ y ∷ []) t.filings n g
  kept_more n g p =
      let k = S.kept n g p in
      let a = traded_more g.name in
      record {
        filed_shares = k.filed_shares;
        filed_amount = k.filed_amount;
        held_shares = omega (arith, k.held_shares);
        held_amount = omega (arith, k.held_amount);
        retained = k.retained;
      }

  -- in a group that had totals before
  module _ (m : ℕ) (group : x.group ≡ m) (here : number_of name 0 b.groups ≡ Some m) where
    of_group : (n : ℕ) (g : Group) → slice_get b.groups n ≡ Some g → same_name y.group g.name ≡ eqb x.group n
    of_group n g p = ap (λ k. same_name k g.name) named ∙ same_number b.groups name m n g here (S.found n g p) p ∙ ap (λ k. eqb k n) (sym group)

    not_new : (other : GroupName) → number_of other 0 b.groups ≡ None → same_name y.group other ≡ false
    not_new other h = other_names y.group other (λ q. cc)

    pub total_sound_old : Sound (with_total b x) (with_told t y) pieces
    total_sound_old = record {
      names = S.names;
      found = S.found;
      known = λ n g p. known_more n g p (of_group n g p);
      kept = kept_more;
      unknown = λ other h. (some-push (total_for other) t.totals y (S.unknown other h).0 (not_new other h), (S.unknown other h).1);
      placed = all_append (λ z. z.group < length b.groups) b.totals (x ∷ []) S.placed (subst (λ k. k < length b.groups) (sym group) (slice_get_within b.groups m (at_place name b.groups m here).group (at_place name b.groups m here).place), tt);
      rows = S.rows;
      running = S.running;
      issued = S.issued;
    }

  -- in a new group
  module _ (size : UnitSize) (group : x.group ≡ length b.groups) (new : number_of name 0 b.groups ≡ None) (unit : y.unit ≡ shares_in size) (some_shares : 0 < y.shares) where
    abbrev added : Group
    added = record { name = name; size = size; retained = false }

    abbrev more_groups : List Group
    more_groups = b.groups ++ added ∷ []

    abbrev told_more : Tally
    told_more = record { groups = t.groups ++ name ∷ []; totals = t.totals ++ y ∷ []; filings = t.filings }

    other_name : (n : ℕ) (g : Group) → slice_get b.groups n ≡ Some g → same_name y.group g.name ≡ false
    other_name n g p =
        let f = S.found n g p in
        other_names y.group g.name (λ q. cc)

    other_number : (n : ℕ) (g : Group) → slice_get b.groups n ≡ Some g → eqb x.group n ≡ false
    other_number n g p =
        let w = slice_get_within b.groups n g p in
        ne_eqb x.group n (λ e. absurd (omega (arith, e, group, w)))

    -- nothing of it was there before
    no_totals : (w : Total → ℕ) (totals : List Total) → AllByRecursion (λ z. z.group < length b.groups) totals → sum_by (λ z. cond (eqb z.group (length b.groups)) (w z) 0) totals ≡ 0
    no_totals w totals h = sum_by-none _ totals (all_weaker (λ z. z.group < length b.groups) _ (λ z k. cond-false (eqb z.group (length b.groups)) (w z) 0 (ne_eqb z.group (length b.groups) (λ e. absurd (omega (arith, e, k))))) totals h)

    no_rows : (k : ℕ) (w : Entry → ℕ) (rows : List Entry) → AllByRecursion (Placed b.records b.opened b.groups pieces) rows → sum_of (length b.groups) k w rows ≡ 0
    no_rows k w rows h = sum_by-none _ rows (all_weaker (Placed b.records b.opened b.groups pieces) _ (λ e q.
        let v = slice_get_within b.groups e.group q.group q.place in
        cond-false (of_kind (length b.groups) k e) (w e) 0 (and_left (eqb e.group (length b.groups)) (eqb e.kind k) (ne_eqb e.group (length b.groups) (λ f. absurd (omega (arith, f, v)))))) rows h)

    is_itself : same_name y.group name ≡ true
    is_itself = ap (λ k. same_name k name) named ∙ same_as_itself name

    known_new : Known (b.totals ++ x ∷ []) (t.totals ++ y ∷ []) (length b.groups) added
    known_new =
        let a = traded_more name in
        let d = totals_more (length b.groups) in
        let o1 = cond-true (same_name y.group name) y.shares 0 is_itself in
        let o2 = cond-true (same_name y.group name) y.amount 0 is_itself in
        let q1 = cond-true (eqb x.group (length b.groups)) x.shares.count 0 (eq-eqb x.group (length b.groups) group) in
        let q2 = cond-true (eqb x.group (length b.groups)) x.amount.count 0 (eq-eqb x.group (length b.groups) group) in
        let z1 = sum_of_none (total_for name) (λ z. z.shares) t.totals (S.unknown name new).0 in
        let z2 = sum_of_none (total_for name) (λ z. z.amount) t.totals (S.unknown name new).0 in
        let w1 = no_totals (λ z. z.shares.count) b.totals S.placed in
        let w2 = no_totals (λ z. z.amount.count) b.totals S.placed in
        record {
          unit = unit-new name t.totals y (S.unknown name new).0 is_itself ∙ unit;
          shares = omega (arith, shares);
          amount = omega (arith, amount);
          some_traded = omega (arith, some_shares);
        }

    no_filings : (k : Kind) (w : Filed → ℕ) (fs : List Filed) → some (filing_for name) fs ≡ false → sum_by (λ f. cond (is_of name k f) (w f) 0) fs ≡ 0
    no_filings k w fs h = sum_by-none _ fs (go fs h)
      where
        go : (fs : List Filed) → some (filing_for name) fs ≡ false → AllByRecursion (λ f. cond (is_of name k f) (w f) 0 ≡ 0) fs
        go [] h = tt
        go (f ∷ fs) h =
            let p = or_parts (same_name f.group name) (some (filing_for name) fs) h in
            (cond-false (is_of name k f) (w f) 0 (and_left (same_name f.group name) (eqb (kind_number f.kind) (kind_number k)) p.0), go fs p.1)

    kept_new : Kept b.rows (t.totals ++ y ∷ []) t.filings (length b.groups) added
    kept_new =
        let z = (S.unknown name new).1 in
        let a = no_rows 0 (shares_of (shares_in size)) b.rows S.rows in
        let c = no_rows 2 (shares_of 1) b.rows S.rows in
        let d = no_rows 0 (row_worth (shares_in size)) b.rows S.rows in
        let e = no_rows 2 (row_worth 1) b.rows S.rows in
        record {
          filed_shares = λ k. no_rows (kind_number k) _ b.rows S.rows ∙ sym (no_filings k (λ f. f.shares) t.filings z);
          filed_amount = λ k. no_rows (kind_number k) _ b.rows S.rows ∙ sym (no_filings k (λ f. f.amount) t.filings z);
          held_shares = omega arith;
          held_amount = omega arith;
          retained = λ h. cc;
        }

    each : (P : ℕ → Group → Type 0) → ((n : ℕ) (g : Group) → slice_get b.groups n ≡ Some g → P n g) → P (length b.groups) added → (n : ℕ) (g : Group) → slice_get more_groups n ≡ Some g → P n g
    each P old last n g p = go (get-push_cases b.groups added n g p)
      where
        go : (slice_get b.groups n ≡ Some g) ⊎ ((n ≡ length b.groups) × (g ≡ added)) → P n g
        go (inl q) = old n g q
        go (inr q) = subst (λ k. P k g) (sym q.0) (subst (λ h. P (length b.groups) h) (sym q.1) last)

    found_new : number_of name 0 more_groups ≡ Some (length b.groups)
    found_new =
        let p = number-push_none name 0 b.groups added new in
        let q : last_one name (0 + length b.groups) added ≡ Some (0 + length b.groups) = cond-true (same_name name name) (Some (0 + length b.groups)) None (same_as_itself name) in
        let e : 0 + length b.groups ≡ length b.groups = omega arith in
        p ∙ q ∙ ap Some e

    still_unknown : (other : GroupName) (o : Option ℕ) → number_of other 0 b.groups ≡ o → number_of other 0 more_groups ≡ None → o ≡ None
    still_unknown other None e h = refl
    still_unknown other (Some n) e h =
        let p = number-push_some other 0 b.groups added n e in
        cc

    not_this : (other : GroupName) → number_of other 0 more_groups ≡ None → same_name y.group other ≡ false
    not_this other h =
        let f = found_new in
        other_names y.group other (λ q. cc)

    same_bytes : (e : Entry) (g : Group) → slice_get b.groups e.group ≡ Some g → bytes_of b.records b.opened b.groups e ≡ bytes_of b.records b.opened more_groups e
    same_bytes e g p =
        let q : slice_get b.groups e.group ≡ slice_get more_groups e.group = p ∙ sym (get-push b.groups added e.group g p) in
        ap (λ o. record_of (λ f. row_says (record { heading = record { broker = b.opened.broker; date = b.opened.date; group = elim o [ Some h ↦ h.name | None ↦ nobody ] }; entry = e }) f.item) b.records.row) q

    still_placed : (e : Entry) → Placed b.records b.opened b.groups pieces e → Placed b.records b.opened more_groups pieces e
    still_placed e q = record {
      kinds = q.kinds;
      group = q.group;
      place = get-push b.groups added e.group q.group q.place;
      answered = subst (λ bytes. Answered b.records pieces bytes) (same_bytes e q.group q.place) q.answered;
    }

    same_units : (before rows : List Entry) → AllByRecursion (Placed b.records b.opened b.groups pieces) rows → AllRun (unit_in b.groups) before rows → AllRun (unit_in more_groups) before rows
    same_units before [] h r = tt
    same_units before (e ∷ es) h r =
        let q : slice_get b.groups e.group ≡ slice_get more_groups e.group = h.0.place ∙ sym (get-push b.groups added e.group h.0.group h.0.place) in
        (subst (λ o. Runs (elim o [ Some g ↦ shares_in g.size | None ↦ 0 ]) before e) q r.0, same_units (before ++ e ∷ []) es h.1 r.1)

    pub total_sound_new : Sound (record b { groups = more_groups; totals = b.totals ++ x ∷ [] }) told_more pieces
    total_sound_new = record {
      names = ap (λ l. l ++ name ∷ []) S.names ∙ sym (map-append (λ g. g.name) b.groups (added ∷ []));
      found = each (λ n g. number_of g.name 0 more_groups ≡ Some n) (λ n g p. number-push_some g.name 0 b.groups added n (S.found n g p)) found_new;
      known = each (Known (b.totals ++ x ∷ []) (t.totals ++ y ∷ [])) (λ n g p. known_more n g p (other_name n g p ∙ sym (other_number n g p))) known_new;
      kept = each (Kept b.rows (t.totals ++ y ∷ []) t.filings) kept_more kept_new;
      unknown = λ other h.
          let o = still_unknown other (number_of other 0 b.groups) refl h in
          (some-push (total_for other) t.totals y (S.unknown other o).0 (not_this other h), (S.unknown other o).1);
      placed =
          let l = length-append b.groups (added ∷ []) in
          all_append (λ z. z.group < length more_groups) b.totals (x ∷ []) (all_weaker (λ z. z.group < length b.groups) (λ z. z.group < length more_groups) (λ z k. omega (arith, k, l)) b.totals S.placed) (omega (arith, group, l), tt);
      rows = all_weaker (Placed b.records b.opened b.groups pieces) (Placed b.records b.opened more_groups pieces) still_placed b.rows S.rows;
      running = same_units [] b.rows S.rows S.running;
      issued = S.issued;
    }
