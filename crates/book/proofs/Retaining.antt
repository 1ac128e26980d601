-- An accepted retention keeps what every run keeps.
use Rattle.std.proofs.Common.{◌≡◌, ℕ, zero, suc, ◌+◌, ◌<◌, ◌≤◌, Bool, true, false, cond, not, ◌&&◌, eqb, List, [], ◌∷◌, length, Some, sum_by, filter, refl, sym, ap, subst, ◌∙◌, arith}
use Rattle.std.specs.List.{AllByRecursion, slice_get}
use Rattle.std.proofs.lemmas.Bool.{eqb-true, and_parts, and_from, both_ways}
use Rattle.lots.specs.Units.{kind_number, shares_in, shares_to_unit}
use Rattle.lots.specs.declared.units.Kind.{Kind}
use Rattle.lots.specs.declared.units.Kind.TheVariants.{BoardLot, OddLot}
use Rattle.layout.specs.Layouts.{record_of}
use Rattle.ledger.specs.Rows.{of_kind}
use Rattle.ledger.specs.declared.row.Entry.{Entry}
use Rattle.forms.specs.Replies.{row_says}
use Rattle.groups.specs.Groups.{same_name, number_of, name_at, retained}
use Rattle.groups.specs.declared.kept.Group.{Group}
use Rattle.lines.specs.Taking.{goes, of_either_kind, rows_left, marked}
use Rattle.book.specs.Answered.{Answered}
use Rattle.lines.specs.Entries.{row_worth}
use Rattle.book.specs.Book.{Book}
use Rattle.book.specs.Tally.{Tally, Filed, is_of, is_struck, differs}
use Rattle.book.proofs.Sums.{all_filter, all_weaker}
use Rattle.book.proofs.Names.{names_of, number-names, equal_names}
use Rattle.book.proofs.Rows.{sum_of, shares_of, Whole, AllRun, run-filter}
use Rattle.book.proofs.Sound.{Known, Kept, Placed, Sound, filing_for, unit_in}
use Rattle.book.proofs.Striking.{struck_all, struck_none, sum_by-filter-le, some-filter}

-- Marking groups leaves their number, names and units.
mark_name : (c : Bool) (g : Group) → (cond c (retained g) g).name ≡ g.name
mark_name true g = refl
mark_name false g = refl

mark_unit : (c : Bool) (g : Group) → shares_in (cond c (retained g) g).size ≡ shares_in g.size
mark_unit true g = refl
mark_unit false g = refl

pub names-marked : (taken : ℕ → Bool) (k : ℕ) (gs : List Group) → names_of (marked taken k gs) ≡ names_of gs
names-marked taken k [] = refl
names-marked taken k (g ∷ gs) = ap (λ x. x ∷ names_of (marked taken (k + 1) gs)) (mark_name (taken k) g) ∙ ap (λ l. g.name ∷ l) (names-marked taken (k + 1) gs)

pub length-marked : (taken : ℕ → Bool) (k : ℕ) (gs : List Group) → length (marked taken k gs) ≡ length gs
length-marked taken k [] = refl
length-marked taken k (g ∷ gs) = ap suc (length-marked taken (k + 1) gs)

pub name-marked : (taken : ℕ → Bool) (k : ℕ) (gs : List Group) (i : ℕ) → name_at (marked taken k gs) i ≡ name_at gs i
name-marked taken k [] i = refl
name-marked taken k (g ∷ gs) zero = mark_name (taken k) g
name-marked taken k (g ∷ gs) (suc i) = name-marked taken (k + 1) gs i

pub unit-marked : (taken : ℕ → Bool) (k : ℕ) (gs : List Group) (i : ℕ) → unit_in (marked taken k gs) i ≡ unit_in gs i
unit-marked taken k [] i = refl
unit-marked taken k (g ∷ gs) zero = mark_unit (taken k) g
unit-marked taken k (g ∷ gs) (suc i) = unit-marked taken (k + 1) gs i

-- the group at a place is the one that stood there, marked or not
pub record Was (taken : ℕ → Bool) (n : ℕ) (gs : List Group) (i : ℕ) (h : Group) : Type 0 where
  pub group : Group
  pub place : slice_get gs i ≡ Some group
  pub marked_so : h ≡ cond (taken n) (retained group) group

pub was : (taken : ℕ → Bool) (k : ℕ) (gs : List Group) (i n : ℕ) (h : Group) → n ≡ k + i → slice_get (marked taken k gs) i ≡ Some h → Was taken n gs i h
was taken k [] i n h e p = cc
was taken k (g ∷ gs) zero n h e p =
    let q : cond (taken k) (retained g) g ≡ h = cc in
    let r : k ≡ n = omega (arith, e) in
    record { group = g; place = refl; marked_so = sym q ∙ ap (λ m. cond (taken m) (retained g) g) r }
was taken k (g ∷ gs) (suc i) n h e p =
    let w = was taken (k + 1) gs i n h (omega (arith, e)) p in
    record { group = w.group; place = w.place; marked_so = w.marked_so }

place_marked : (taken : ℕ → Bool) (k : ℕ) (gs : List Group) (i : ℕ) (g : Group) → slice_get gs i ≡ Some g → (h : Group) × (slice_get (marked taken k gs) i ≡ Some h)
place_marked taken k [] i g p = cc
place_marked taken k (x ∷ xs) zero g p = (cond (taken k) (retained x) x, refl)
place_marked taken k (x ∷ xs) (suc i) g p = place_marked taken (k + 1) xs i g p

of_either : (k : Kind) → of_either_kind (kind_number k) ≡ true
of_either BoardLot = refl
of_either OddLot = refl

goes_whole : (taken : ℕ → Bool) → Whole (λ e. not (goes taken e))
goes_whole taken e x h a =
    let q = and_parts (eqb x.group e.group) (eqb x.kind e.kind) a in
    let g : e.group ≡ x.group = sym (eqb-true x.group e.group q.0) in
    let k : e.kind ≡ x.kind = sym (eqb-true x.kind e.kind q.1) in
    subst (λ i. not (taken i && of_either_kind x.kind) ≡ true) g (subst (λ i. not (taken e.group && of_either_kind i) ≡ true) k h)

module _ (b : Book) (t : Tally) (pieces : List (List ℕ)) (S : Sound b t pieces) (account : ℕ) (taken : ℕ → Bool) (takes : (n : ℕ) (g : Group) → slice_get b.groups n ≡ Some g → taken n ≡ (eqb g.name.account account && differs t g.name)) where
  abbrev marked_groups : List Group
  marked_groups = marked taken 0 b.groups

  abbrev left_rows : List Entry
  left_rows = rows_left taken b.rows

  abbrev filings_left : List Filed
  filings_left = filter (λ f. not (is_struck account t f)) t.filings

  module _ (n : ℕ) (g : Group) (p : slice_get b.groups n ≡ Some g) where
    -- of a taken group nothing is left, of another all
    rows_after : (c : Bool) → taken n ≡ c → (k : Kind) (w : Entry → ℕ) → sum_of n (kind_number k) w left_rows ≡ cond c 0 (sum_of n (kind_number k) w b.rows)
    rows_after true e k w = struck_all (goes taken) (of_kind n (kind_number k)) w b.rows (λ r h.
        let q = and_parts (eqb r.group n) (eqb r.kind (kind_number k)) h in
        and_from (taken r.group) (of_either_kind r.kind) (ap taken (eqb-true r.group n q.0) ∙ e) (ap of_either_kind (eqb-true r.kind (kind_number k) q.1) ∙ of_either k))
    rows_after false e k w = struck_none (goes taken) (of_kind n (kind_number k)) w b.rows (λ r h j.
        let q = and_parts (taken r.group) (of_either_kind r.kind) h in
        let u = and_parts (eqb r.group n) (eqb r.kind (kind_number k)) j in
        both_ways (taken n) e (sym (ap taken (eqb-true r.group n u.0)) ∙ q.0))

    struck_so : (f : Filed) → f.group ≡ g.name → is_struck account t f ≡ taken n
    struck_so f e = ap (λ name. eqb name.account account && differs t name) e ∙ sym (takes n g p)

    filings_after : (c : Bool) → taken n ≡ c → (k : Kind) (v : Filed → ℕ) → sum_by (λ f. cond (is_of g.name k f) (v f) 0) filings_left ≡ cond c 0 (sum_by (λ f. cond (is_of g.name k f) (v f) 0) t.filings)
    filings_after true e k v = struck_all (is_struck account t) (is_of g.name k) v t.filings (λ f h.
        let q = and_parts (same_name f.group g.name) (eqb (kind_number f.kind) (kind_number k)) h in
        struck_so f (equal_names f.group g.name q.0) ∙ e)
    filings_after false e k v = struck_none (is_struck account t) (is_of g.name k) v t.filings (λ f h j.
        let q = and_parts (same_name f.group g.name) (eqb (kind_number f.kind) (kind_number k)) j in
        both_ways (taken n) e (sym (struck_so f (equal_names f.group g.name q.0)) ∙ h))

    fewer_rows : (k : ℕ) (w : Entry → ℕ) → sum_of n k w left_rows ≤ sum_of n k w b.rows
    fewer_rows k w = sum_by-filter-le (λ e. not (goes taken e)) (λ e. cond (of_kind n k e) (w e) 0) b.rows

    kept_after : (c : Bool) → taken n ≡ c → Kept left_rows t.totals filings_left n (cond c (retained g) g)
    kept_after true e =
        let k = S.kept n g p in
        let a = rows_after true e BoardLot (shares_of (shares_in g.size)) in
        let d = rows_after true e OddLot (shares_of 1) in
        let x = rows_after true e BoardLot (row_worth (shares_in g.size)) in
        let y = rows_after true e OddLot (row_worth 1) in
        record {
          filed_shares = λ j. rows_after true e j (shares_of (shares_to_unit j g.size)) ∙ sym (filings_after true e j (λ f. f.shares));
          filed_amount = λ j. rows_after true e j (row_worth (shares_to_unit j g.size)) ∙ sym (filings_after true e j (λ f. f.amount));
          held_shares = omega arith;
          held_amount = omega arith;
          retained = λ h. omega arith;
        }
    kept_after false e =
        let k = S.kept n g p in
        let a = fewer_rows 0 (shares_of (shares_in g.size)) in
        let d = fewer_rows 2 (shares_of 1) in
        let x = fewer_rows 0 (row_worth (shares_in g.size)) in
        let y = fewer_rows 2 (row_worth 1) in
        record {
          filed_shares = λ j. rows_after false e j (shares_of (shares_to_unit j g.size)) ∙ k.filed_shares j ∙ sym (filings_after false e j (λ f. f.shares));
          filed_amount = λ j. rows_after false e j (row_worth (shares_to_unit j g.size)) ∙ k.filed_amount j ∙ sym (filings_after false e j (λ f. f.amount));
          held_shares = omega (arith, k.held_shares);
          held_amount = omega (arith, k.held_amount);
          retained = λ h. let z = k.retained h in omega (arith, z);
        }

    known_after : (c : Bool) → Known b.totals t.totals n (cond c (retained g) g)
    known_after true =
        let k = S.known n g p in
        record { unit = k.unit; shares = k.shares; amount = k.amount; some_traded = k.some_traded }
    known_after false = S.known n g p

  -- for the group that stands at a place now
  at_marked : (P : ℕ → Group → Type 0) → ((n : ℕ) (g : Group) → slice_get b.groups n ≡ Some g → P n (cond (taken n) (retained g) g)) → (n : ℕ) (h : Group) → slice_get marked_groups n ≡ Some h → P n h
  at_marked P each n h p =
      let w = was taken 0 b.groups n n h (omega arith) p in
      subst (P n) (sym w.marked_so) (each n w.group w.place)

  found_after : (n : ℕ) (g : Group) → slice_get b.groups n ≡ Some g → number_of (cond (taken n) (retained g) g).name 0 marked_groups ≡ Some n
  found_after n g p =
      number-names (cond (taken n) (retained g) g).name 0 marked_groups b.groups (names-marked taken 0 b.groups)
      ∙ ap (λ i. number_of i 0 b.groups) (mark_name (taken n) g)
      ∙ S.found n g p

  placed_after : (e : Entry) → Placed b.records b.opened b.groups pieces e → Placed b.records b.opened marked_groups pieces e
  placed_after e q =
      let w = place_marked taken 0 b.groups e.group q.group q.place in
      record {
        kinds = q.kinds;
        group = w.0;
        place = w.1;
        answered = subst (λ name. Answered b.records pieces (record_of (λ f. row_says (record { heading = record { broker = b.opened.broker; date = b.opened.date; group = name }; entry = e }) f.item) b.records.row)) (sym (name-marked taken 0 b.groups e.group)) q.answered;
      }

  same_units : unit_in b.groups ≡ unit_in marked_groups
  same_units = λ i n. sym (unit-marked taken 0 b.groups n) i

  pub retention_sound : Sound (record b { groups = marked_groups; rows = left_rows }) (record t { filings = filings_left }) pieces
  retention_sound = record {
    names = S.names ∙ sym (names-marked taken 0 b.groups);
    found = at_marked (λ n h. number_of h.name 0 marked_groups ≡ Some n) found_after;
    known = at_marked (Known b.totals t.totals) (λ n g p. known_after n g p (taken n));
    kept = at_marked (Kept left_rows t.totals filings_left) (λ n g p. kept_after n g p (taken n) refl);
    unknown = λ other h.
        let o = sym (number-names other 0 marked_groups b.groups (names-marked taken 0 b.groups)) ∙ h in
        ((S.unknown other o).0, some-filter (filing_for other) (λ f. not (is_struck account t f)) t.filings (S.unknown other o).1);
    placed = subst (λ l. AllByRecursion (λ x. x.group < l) b.totals) (sym (length-marked taken 0 b.groups)) S.placed;
    rows = all_weaker (Placed b.records b.opened b.groups pieces) (Placed b.records b.opened marked_groups pieces) placed_after left_rows (all_filter (Placed b.records b.opened b.groups pieces) (λ e. not (goes taken e)) b.rows S.rows);
    running = subst (λ u. AllRun u [] left_rows) same_units (run-filter (unit_in b.groups) (λ e. not (goes taken e)) (goes_whole taken) [] b.rows S.running);
    issued = S.issued;
  }
