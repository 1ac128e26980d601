-- An accepted filing keeps what every run keeps.
use Rattle.std.proofs.Common.{◌≡◌, ℕ, ◌+◌, ◌≤◌, Bool, true, false, cond, ◌&&◌, eqb, List, [], ◌∷◌, ◌++◌, Some, None, sum_by, refl, sym, ap, ◌∙◌, arith}
use Rattle.std.specs.List.{AllByRecursion, slice_get}
use Rattle.std.proofs.lemmas.List.Sums.{sum_by_push}
use Rattle.std.proofs.lemmas.List.Elements.{Contains-append_left}
use Rattle.std.proofs.lemmas.Bool.{cond-true, cond-false, eqb-true, eq-eqb, and_parts, and_from}
use Rattle.lots.specs.Units.{kind_number, shares_in, shares_to_unit}
use Rattle.lots.specs.declared.units.Kind.{Kind}
use Rattle.lots.specs.declared.units.Kind.TheVariants.{BoardLot, OddLot}
use Rattle.ledger.specs.declared.row.Entry.{Entry}
use Rattle.forms.specs.declared.contents.GroupName.{GroupName}
use Rattle.groups.specs.Groups.{same_name, number_of}
use Rattle.groups.specs.declared.kept.Group.{Group}
use Rattle.lines.specs.Entries.{row_worth}
use Rattle.book.specs.Book.{Book}
use Rattle.book.specs.Tally.{Tally, Filed, is_of, traded_shares, traded_amount}
use Rattle.book.proofs.Sums.{all_append, all_weaker}
use Rattle.book.proofs.Names.{other_names}
use Rattle.book.proofs.Rows.{InKind, sum_of, sum_of-append, sum_of-alike, shares_of, AllRun, run-append}
use Rattle.book.proofs.Sound.{Kept, Placed, Issued, Sound, filing_for, shares_both, worth_both, unit_in, same_number, some-push}
use Rattle.book.proofs.Striking.{equal_kinds}

-- the entries that a filing made, and what the tally has of it
pub record Comes (n : ℕ) (kind : Kind) (g : Group) (new : List Entry) (f : Filed) : Type 0 where
  pub alike : AllByRecursion (InKind n (kind_number kind)) new
  pub same_kind : f.kind ≡ kind
  pub shares : sum_by (shares_of (shares_to_unit kind g.size)) new ≡ f.shares
  pub amount : sum_by (row_worth (shares_to_unit kind g.size)) new ≡ f.amount

-- the two kinds of a group hold what one of them does
both : (c : Bool) (kind : Kind) (v : Kind → ℕ) → cond (c && eqb (kind_number kind) 0) (v BoardLot) 0 + cond (c && eqb (kind_number kind) 2) (v OddLot) 0 ≡ cond c (v kind) 0
both true BoardLot v = omega arith
both true OddLot v = omega arith
both false kind v = omega arith

module _ (b : Book) (t : Tally) (pieces recs : List (List ℕ)) (S : Sound b t pieces) (name : GroupName) (kind : Kind) (n : ℕ) (g : Group) (here : number_of name 0 b.groups ≡ Some n) (place : slice_get b.groups n ≡ Some g) (new : List Entry) (f : Filed) (next : ℕ) (named : f.group ≡ name) (C : Comes n kind g new f) where
  abbrev rows_more : List Entry
  rows_more = b.rows ++ new

  abbrev more_filings : List Filed
  more_filings = t.filings ++ f ∷ []

  -- for a weight by the size of the unit: what is added to the rows of a group and kind is what was filed
  module _ (weight : ℕ → Entry → ℕ) (filed : Filed → ℕ) (comes : sum_by (weight (shares_to_unit kind g.size)) new ≡ filed f) (m : ℕ) (h : Group) (p : slice_get b.groups m ≡ Some h) where
    of_name : same_name f.group h.name ≡ eqb n m
    of_name = ap (λ k. same_name k h.name) named ∙ same_number b.groups name n m h here (S.found m h p) p

    same_group : n ≡ m → g ≡ h
    same_group e =
        let q : Some g ≡ Some h = sym place ∙ ap (slice_get b.groups) e ∙ p in
        cc

    added : (k : Kind) → sum_of m (kind_number k) (weight (shares_to_unit k h.size)) new ≡ cond (is_of h.name k f) (filed f) 0
    added k =
        sum_of-alike m (kind_number k) n (kind_number kind) (weight (shares_to_unit k h.size)) new C.alike
        ∙ go (eqb n m && eqb (kind_number kind) (kind_number k)) refl
      where
        go : (c : Bool) → (eqb n m && eqb (kind_number kind) (kind_number k)) ≡ c → cond c (sum_by (weight (shares_to_unit k h.size)) new) 0 ≡ cond (is_of h.name k f) (filed f) 0
        go true e =
            let q = and_parts (eqb n m) (eqb (kind_number kind) (kind_number k)) e in
            let x : kind ≡ k = equal_kinds kind k (eqb-true (kind_number kind) (kind_number k) q.1) in
            let y : g ≡ h = same_group (eqb-true n m q.0) in
            let z : is_of h.name k f ≡ true = and_from (same_name f.group h.name) (eqb (kind_number f.kind) (kind_number k)) (of_name ∙ q.0) (eq-eqb (kind_number f.kind) (kind_number k) (ap kind_number (C.same_kind ∙ x))) in
            ap (λ i. sum_by (weight (shares_to_unit i h.size)) new) (sym x) ∙ ap (λ i. sum_by (weight (shares_to_unit kind i.size)) new) (sym y) ∙ comes ∙ sym (cond-true (is_of h.name k f) (filed f) 0 z)
        go false e =
            let i : is_of h.name k f ≡ (eqb n m && eqb (kind_number kind) (kind_number k)) = ap (λ o. o && eqb (kind_number f.kind) (kind_number k)) of_name ∙ ap (λ o. eqb n m && eqb (kind_number o) (kind_number k)) C.same_kind in
            sym (cond-false (is_of h.name k f) (filed f) 0 (i ∙ e))

    filed_more : (k : Kind) → sum_of m (kind_number k) (weight (shares_to_unit k h.size)) b.rows ≡ sum_by (λ x. cond (is_of h.name k x) (filed x) 0) t.filings → sum_of m (kind_number k) (weight (shares_to_unit k h.size)) rows_more ≡ sum_by (λ x. cond (is_of h.name k x) (filed x) 0) more_filings
    filed_more k before =
        let a = sum_of-append m (kind_number k) (weight (shares_to_unit k h.size)) b.rows new in
        let c = sum_by_push (λ x. cond (is_of h.name k x) (filed x) 0) t.filings f in
        let d = added k in
        omega (arith, before)

    -- both kinds together
    both_more : sum_of m 0 (weight (shares_in h.size)) new + sum_of m 2 (weight 1) new ≡ cond (eqb n m) (filed f) 0
    both_more =
        let a = sum_of-alike m 0 n (kind_number kind) (weight (shares_in h.size)) new C.alike in
        let c = sum_of-alike m 2 n (kind_number kind) (weight 1) new C.alike in
        let d = both (eqb n m) kind (λ k. sum_by (weight (shares_to_unit k h.size)) new) in
        let e = go (eqb n m) refl in
        omega arith
      where
        go : (c : Bool) → eqb n m ≡ c → cond c (sum_by (weight (shares_to_unit kind h.size)) new) 0 ≡ cond c (filed f) 0
        go true e = ap (λ i. sum_by (weight (shares_to_unit kind i.size)) new) (sym (same_group (eqb-true n m e))) ∙ comes
        go false e = refl

    both_after : sum_of m 0 (weight (shares_in h.size)) rows_more + sum_of m 2 (weight 1) rows_more ≡ (sum_of m 0 (weight (shares_in h.size)) b.rows + sum_of m 2 (weight 1) b.rows) + cond (eqb n m) (filed f) 0
    both_after =
        let a = sum_of-append m 0 (weight (shares_in h.size)) b.rows new in
        let c = sum_of-append m 2 (weight 1) b.rows new in
        let d = both_more in
        omega arith

    within : (bound : ℕ) → sum_of n 0 (weight (shares_in g.size)) b.rows + sum_of n 2 (weight 1) b.rows + filed f ≤ bound → (top : ℕ) → (n ≡ m → top ≡ bound) → sum_of m 0 (weight (shares_in h.size)) b.rows + sum_of m 2 (weight 1) b.rows ≤ top → sum_of m 0 (weight (shares_in h.size)) rows_more + sum_of m 2 (weight 1) rows_more ≤ top
    within bound fits top same before = go (eqb n m) refl
      where
        go : (c : Bool) → eqb n m ≡ c → sum_of m 0 (weight (shares_in h.size)) rows_more + sum_of m 2 (weight 1) rows_more ≤ top
        go true e =
            let q = eqb-true n m e in
            let x : sum_of n 0 (weight (shares_in g.size)) b.rows + sum_of n 2 (weight 1) b.rows ≡ sum_of m 0 (weight (shares_in h.size)) b.rows + sum_of m 2 (weight 1) b.rows =
            ap (λ i. sum_of i 0 (weight (shares_in g.size)) b.rows + sum_of i 2 (weight 1) b.rows) q ∙ ap (λ i. sum_of m 0 (weight (shares_in i.size)) b.rows + sum_of m 2 (weight 1) b.rows) (same_group q) in
            let y = both_after in
            let z = cond-true (eqb n m) (filed f) 0 e in
            let w = same q in
            omega (arith, fits)
        go false e =
            let y = both_after in
            let z = cond-false (eqb n m) (filed f) 0 e in
            omega (arith, before)

  module _ (open_shares : shares_both n g.size b.rows + f.shares ≤ traded_shares g.name t.totals) (open_amount : worth_both n g.size b.rows + f.amount ≤ traded_amount g.name t.totals) (not_retained : g.retained ≡ true → ⊥) where
    kept_more : (m : ℕ) (h : Group) → slice_get b.groups m ≡ Some h → Kept rows_more t.totals more_filings m h
    kept_more m h p =
        let k = S.kept m h p in
        let top : n ≡ m → traded_shares h.name t.totals ≡ traded_shares g.name t.totals = λ e. ap (λ i. traded_shares i.name t.totals) (sym (same_group shares_of (λ x. x.shares) C.shares m h p e)) in
        let sum : n ≡ m → traded_amount h.name t.totals ≡ traded_amount g.name t.totals = λ e. ap (λ i. traded_amount i.name t.totals) (sym (same_group shares_of (λ x. x.shares) C.shares m h p e)) in
        record {
          filed_shares = λ j. filed_more shares_of (λ x. x.shares) C.shares m h p j (k.filed_shares j);
          filed_amount = λ j. filed_more row_worth (λ x. x.amount) C.amount m h p j (k.filed_amount j);
          held_shares = within shares_of (λ x. x.shares) C.shares m h p (traded_shares g.name t.totals) open_shares (traded_shares h.name t.totals) top k.held_shares;
          held_amount = within row_worth (λ x. x.amount) C.amount m h p (traded_amount g.name t.totals) open_amount (traded_amount h.name t.totals) sum k.held_amount;
          retained = λ r. go (eqb n m) refl r (k.retained r);
        }
      where
        go : (c : Bool) → eqb n m ≡ c → h.retained ≡ true → shares_both m h.size b.rows ≡ 0 → shares_both m h.size rows_more ≡ 0
        go true e r z = absurd (not_retained (ap (λ i. i.retained) (same_group shares_of (λ x. x.shares) C.shares m h p (eqb-true n m e)) ∙ r))
        go false e r z =
            let y = both_after shares_of (λ x. x.shares) C.shares m h p in
            let x = cond-false (eqb n m) f.shares 0 e in
            omega (arith, z)

    not_new : (other : GroupName) → number_of other 0 b.groups ≡ None → same_name f.group other ≡ false
    not_new other h = other_names f.group other (λ q. cc)

    still_answered : (e : Entry) → Placed b.records b.opened b.groups pieces e → Placed b.records b.opened b.groups (pieces ++ recs) e
    still_answered e q = record {
      kinds = q.kinds;
      group = q.group;
      place = q.place;
      answered = (q.answered.0, Contains-append_left pieces recs q.answered.0 q.answered.1, q.answered.2);
    }

    module _ (placed : AllByRecursion (Placed b.records b.opened b.groups (pieces ++ recs)) new) (running : AllRun (unit_in b.groups) b.rows new) (issued : Issued b.records next (pieces ++ recs)) where
      pub filing_sound : Sound (record b { next = next; rows = rows_more }) (record t { filings = more_filings }) (pieces ++ recs)
      filing_sound = record {
        names = S.names;
        found = S.found;
        known = S.known;
        kept = kept_more;
        unknown = λ other h. ((S.unknown other h).0, some-push (filing_for other) t.filings f (S.unknown other h).1 (not_new other h));
        placed = S.placed;
        rows = all_append (Placed b.records b.opened b.groups (pieces ++ recs)) b.rows new (all_weaker (Placed b.records b.opened b.groups pieces) (Placed b.records b.opened b.groups (pieces ++ recs)) still_answered b.rows S.rows) placed;
        running = run-append (unit_in b.groups) [] b.rows new S.running running;
        issued = issued;
      }
