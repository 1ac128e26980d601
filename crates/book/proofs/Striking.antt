-- An accepted deletion keeps what every run keeps.
use Rattle.std.proofs.Common.{◌≡◌, ℕ, ◌+◌, ◌≤◌, Bool, true, false, cond, not, ◌&&◌, eqb, List, [], ◌∷◌, Some, sum_by, filter, refl, sym, subst, ◌∙◌, arith}
use Rattle.std.specs.List.{slice_get}
use Rattle.std.proofs.lemmas.List.Sums.{sum_by-cons}
use Rattle.std.proofs.lemmas.Bool.{eqb-true, eq-eqb, and_parts, and_from, or_parts, or_from, not-true}
use Rattle.lots.specs.Units.{kind_number, shares_in, shares_to_unit}
use Rattle.lots.specs.declared.units.Kind.{Kind}
use Rattle.lots.specs.declared.units.Kind.TheVariants.{BoardLot, OddLot}
use Rattle.ledger.specs.Rows.{of_kind, others}
use Rattle.ledger.specs.declared.row.Entry.{Entry}
use Rattle.forms.specs.declared.contents.GroupName.{GroupName}
use Rattle.groups.specs.Groups.{same_name, number_of, some}
use Rattle.groups.specs.declared.kept.Group.{Group}
use Rattle.lines.specs.Entries.{row_worth}
use Rattle.book.specs.Book.{Book}
use Rattle.book.specs.Tally.{Tally, Filed, is_of}
use Rattle.book.proofs.Sums.{all_of, all_filter, sum_by-same, sum_by-none, sum_by-filter}
use Rattle.book.proofs.Names.{equal_names, same_as_itself}
use Rattle.book.proofs.Rows.{sum_of, shares_of, Whole, run-filter}
use Rattle.book.proofs.Sound.{Kept, Placed, Sound, filing_for, unit_in, same_number}

-- What p takes out: all that q picks, or none of it.
module _ {X : Type 0} (p q : X → Bool) (w : X → ℕ) where
  abbrev picked : X → ℕ
  picked x = cond (q x) (w x) 0

  gone : (b c : Bool) (m : ℕ) → (c ≡ true → b ≡ true) → cond (not b) (cond c m 0) 0 ≡ 0
  gone true c m h = refl
  gone false true m h = let e = h refl in cc
  gone false false m h = refl

  stays : (b c : Bool) (m : ℕ) → (b ≡ true → c ≡ true → ⊥) → cond (not b) (cond c m 0) 0 ≡ cond c m 0
  stays true true m h = absurd (h refl refl)
  stays true false m h = refl
  stays false c m h = refl

  pub struck_all : (xs : List X) → ((x : X) → q x ≡ true → p x ≡ true) → sum_by picked (filter (λ x. not (p x)) xs) ≡ 0
  struck_all xs h = sum_by-filter (λ x. not (p x)) picked xs ∙ sum_by-none _ xs (all_of _ (λ x. gone (p x) (q x) (w x) (h x)) xs)

  pub struck_none : (xs : List X) → ((x : X) → p x ≡ true → q x ≡ true → ⊥) → sum_by picked (filter (λ x. not (p x)) xs) ≡ sum_by picked xs
  struck_none xs h = sum_by-filter (λ x. not (p x)) picked xs ∙ sum_by-same _ _ xs (all_of _ (λ x. stays (p x) (q x) (w x) (h x)) xs)

-- what a filter keeps is no more than there was
less : (b : Bool) (m a c : ℕ) → a ≤ c → cond b m 0 + a ≤ m + c
less true m a c h = omega (arith, h)
less false m a c h = omega (arith, h)

part : {X : Type 0} (p : X → Bool) (f : X → ℕ) (xs : List X) → sum_by (λ x. cond (p x) (f x) 0) xs ≤ sum_by f xs
part p f [] = omega arith
part p f (x ∷ xs) =
    let r = less (p x) (f x) (sum_by (λ y. cond (p y) (f y) 0) xs) (sum_by f xs) (part p f xs) in
    omega (arith, sum_by-cons f x xs, sum_by-cons (λ y. cond (p y) (f y) 0) x xs)

pub sum_by-filter-le : {X : Type 0} (p : X → Bool) (f : X → ℕ) (xs : List X) → sum_by f (filter p xs) ≤ sum_by f xs
sum_by-filter-le p f xs = subst (λ n. n ≤ sum_by f xs) (sym (sum_by-filter p f xs)) (part p f xs)

kept_some : {X : Type 0} (test : X → Bool) (b : Bool) (x : X) (ys : List X) → test x ≡ false → some test ys ≡ false → some test (cond b (x ∷ ys) ys) ≡ false
kept_some test true x ys h k = or_from (test x) (some test ys) h k
kept_some test false x ys h k = k

pub some-filter : {X : Type 0} (test p : X → Bool) (xs : List X) → some test xs ≡ false → some test (filter p xs) ≡ false
some-filter test p [] h = refl
some-filter test p (x ∷ xs) h =
    let q = or_parts (test x) (some test xs) h in
    kept_some test (p x) x (filter p xs) q.0 (some-filter test p xs q.1)

-- kinds are told apart by their numbers
pub equal_kinds : (a b : Kind) → kind_number a ≡ kind_number b → a ≡ b
equal_kinds BoardLot BoardLot h = refl
equal_kinds BoardLot OddLot h = absurd (omega (arith, h))
equal_kinds OddLot BoardLot h = absurd (omega (arith, h))
equal_kinds OddLot OddLot h = refl

-- rows of a group and kind go together
pub others_whole : (n k : ℕ) → Whole (others n k)
others_whole n k e x h a = go (of_kind n k x) refl
  where
    go : (b : Bool) → of_kind n k x ≡ b → not b ≡ true
    go true p =
        let q = and_parts (eqb x.group n) (eqb x.kind k) p in
        let r = and_parts (eqb x.group e.group) (eqb x.kind e.kind) a in
        let g : e.group ≡ n = sym (eqb-true x.group e.group r.0) ∙ eqb-true x.group n q.0 in
        let j : e.kind ≡ k = sym (eqb-true x.kind e.kind r.1) ∙ eqb-true x.kind k q.1 in
        let s : of_kind n k e ≡ true = and_from (eqb e.group n) (eqb e.kind k) (eq-eqb e.group n g) (eq-eqb e.kind k j) in
        let u = not-true (of_kind n k e) h in
        cc
    go false p = refl

abbrev pub struck : GroupName → Kind → List Filed → List Filed
struck name kind fs = filter (λ f. not (is_of name kind f)) fs

abbrev pub without_kind : ℕ → ℕ → List Entry → List Entry
without_kind n k rows = filter (others n k) rows

module _ (b : Book) (t : Tally) (pieces : List (List ℕ)) (S : Sound b t pieces) (name : GroupName) (kind : Kind) (n : ℕ) (here : number_of name 0 b.groups ≡ Some n) where
  abbrev rows_left : List Entry
  rows_left = without_kind n (kind_number kind) b.rows

  abbrev tally_left : Tally
  tally_left = record t { filings = struck name kind t.filings }

  module _ (m : ℕ) (g : Group) (p : slice_get b.groups m ≡ Some g) where
    same_here : same_name name g.name ≡ eqb n m
    same_here = same_number b.groups name n m g here (S.found m g p) p

    -- the kind that goes, and those that stay
    filed_after : (w : Entry → ℕ) (v : Filed → ℕ) (k : Kind) → sum_of m (kind_number k) w b.rows ≡ sum_by (λ f. cond (is_of g.name k f) (v f) 0) t.filings → sum_of m (kind_number k) w rows_left ≡ sum_by (λ f. cond (is_of g.name k f) (v f) 0) (struck name kind t.filings)
    filed_after w v k before = go (eqb n m && eqb (kind_number kind) (kind_number k)) refl
      where
        go : (c : Bool) → (eqb n m && eqb (kind_number kind) (kind_number k)) ≡ c → sum_of m (kind_number k) w rows_left ≡ sum_by (λ f. cond (is_of g.name k f) (v f) 0) (struck name kind t.filings)
        go true e =
            let q = and_parts (eqb n m) (eqb (kind_number kind) (kind_number k)) e in
            let x : n ≡ m = eqb-true n m q.0 in
            let y : kind_number kind ≡ kind_number k = eqb-true (kind_number kind) (kind_number k) q.1 in
            let z : name ≡ g.name = equal_names name g.name (same_here ∙ q.0) in
            struck_all (of_kind n (kind_number kind)) (of_kind m (kind_number k)) w b.rows (λ r h. subst (λ i. of_kind i (kind_number kind) r ≡ true) (sym x) (subst (λ i. of_kind m i r ≡ true) (sym y) h))
            ∙ sym (struck_all (is_of name kind) (is_of g.name k) v t.filings (λ f h. subst (λ i. is_of i kind f ≡ true) (sym z) (subst (λ i. (same_name f.group g.name && eqb (kind_number f.kind) i) ≡ true) (sym y) h)))
        go false e =
            struck_none (of_kind n (kind_number kind)) (of_kind m (kind_number k)) w b.rows (λ r h j.
            let x = and_parts (eqb r.group n) (eqb r.kind (kind_number kind)) h in
            let y = and_parts (eqb r.group m) (eqb r.kind (kind_number k)) j in
            let u : n ≡ m = sym (eqb-true r.group n x.0) ∙ eqb-true r.group m y.0 in
            let o : kind_number kind ≡ kind_number k = sym (eqb-true r.kind (kind_number kind) x.1) ∙ eqb-true r.kind (kind_number k) y.1 in
            let z = and_from (eqb n m) (eqb (kind_number kind) (kind_number k)) (eq-eqb n m u) (eq-eqb (kind_number kind) (kind_number k) o) in
            cc)
            ∙ before
            ∙ sym (struck_none (is_of name kind) (is_of g.name k) v t.filings (λ f h j.
            let x = and_parts (same_name f.group name) (eqb (kind_number f.kind) (kind_number kind)) h in
            let y = and_parts (same_name f.group g.name) (eqb (kind_number f.kind) (kind_number k)) j in
            let u : name ≡ g.name = sym (equal_names f.group name x.0) ∙ equal_names f.group g.name y.0 in
            let i : same_name name g.name ≡ true = subst (λ a. same_name name a ≡ true) u (same_as_itself name) in
            let o : kind_number kind ≡ kind_number k = sym (eqb-true (kind_number f.kind) (kind_number kind) x.1) ∙ eqb-true (kind_number f.kind) (kind_number k) y.1 in
            let z = and_from (eqb n m) (eqb (kind_number kind) (kind_number k)) (sym same_here ∙ i) (eq-eqb (kind_number kind) (kind_number k) o) in
            cc))

    kept_after : Kept rows_left t.totals (struck name kind t.filings) m g
    kept_after =
        let k = S.kept m g p in
        let a = sum_by-filter-le (others n (kind_number kind)) (λ e. cond (of_kind m 0 e) (shares_of (shares_in g.size) e) 0) b.rows in
        let c = sum_by-filter-le (others n (kind_number kind)) (λ e. cond (of_kind m 2 e) (shares_of 1 e) 0) b.rows in
        let d = sum_by-filter-le (others n (kind_number kind)) (λ e. cond (of_kind m 0 e) (row_worth (shares_in g.size) e) 0) b.rows in
        let e = sum_by-filter-le (others n (kind_number kind)) (λ e. cond (of_kind m 2 e) (row_worth 1 e) 0) b.rows in
        record {
          filed_shares = λ j. filed_after (shares_of (shares_to_unit j g.size)) (λ f. f.shares) j (k.filed_shares j);
          filed_amount = λ j. filed_after (row_worth (shares_to_unit j g.size)) (λ f. f.amount) j (k.filed_amount j);
          held_shares = omega (arith, k.held_shares);
          held_amount = omega (arith, k.held_amount);
          retained = λ h. let z = k.retained h in omega (arith, z);
        }

  pub deletion_sound : Sound (record b { rows = rows_left }) tally_left pieces
  deletion_sound = record {
    names = S.names;
    found = S.found;
    known = S.known;
    kept = kept_after;
    unknown = λ other h. ((S.unknown other h).0, some-filter (filing_for other) (λ f. not (is_of name kind f)) t.filings (S.unknown other h).1);
    placed = S.placed;
    rows = all_filter (Placed b.records b.opened b.groups pieces) (others n (kind_number kind)) b.rows S.rows;
    running = run-filter (unit_in b.groups) (others n (kind_number kind)) (others_whole n (kind_number kind)) [] b.rows S.running;
    issued = S.issued;
  }
