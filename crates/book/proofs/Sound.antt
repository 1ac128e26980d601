-- What every run of calls keeps, between a day and the tally of what was heard of it.
use Rattle.std.proofs.Common.{◌≡◌, ℕ, ◌+◌, ◌<◌, ◌≤◌, Bool, true, false, cond, ◌||◌, eqb, List, [], ◌∷◌, ◌++◌, map, length, Some, None, sum_by, refl, sym, ap, subst, ◌∙◌, arith}
use Rattle.std.specs.List.{AllByRecursion, slice_get}
use Rattle.std.proofs.lemmas.List.Sums.{sum_by-cons}
use Rattle.std.proofs.lemmas.Bool.{cond-true, cond-false, eq-eqb, ne_eqb, or_parts, or_from}
use Rattle.lots.specs.Units.{kind_number, shares_in, shares_to_unit}
use Rattle.lots.specs.declared.units.Kind.{Kind}
use Rattle.lots.specs.declared.units.UnitSize.{UnitSize}
use Rattle.ledger.specs.declared.row.Entry.{Entry}
use Rattle.forms.specs.Replies.{row_says}
use Rattle.forms.specs.declared.contents.GroupName.{GroupName}
use Rattle.layout.specs.Layouts.{record_of}
use Rattle.groups.specs.Groups.{same_name, number_of, name_at, some}
use Rattle.groups.specs.Sums.{traded_by}
use Rattle.groups.specs.declared.kept.Group.{Group}
use Rattle.groups.specs.declared.kept.Total.{Total}
use Rattle.judge.specs.declared.heading.Opened.{Opened}
use Rattle.book.specs.Answered.{Answered, trade_number}
use Rattle.lines.specs.Entries.{row_worth}
use Rattle.book.specs.Book.{Book, Records}
use Rattle.book.specs.Tally.{Tally, Traded, Filed, unit_of, traded_shares, traded_amount, is_of}
use Rattle.book.proofs.Names.{at_place, equal_names, same_as_itself, names_of}
use Rattle.book.proofs.Numbers.{Rising}
use Rattle.book.proofs.Rows.{sum_of, shares_of, OfKinds, AllRun}

-- what the rows of a group of a size hold, in both kinds
abbrev pub shares_both : ℕ → UnitSize → List Entry → ℕ
shares_both n size rows = sum_of n 0 (shares_of (shares_in size)) rows + sum_of n 2 (shares_of 1) rows

abbrev pub worth_both : ℕ → UnitSize → List Entry → ℕ
worth_both n size rows = sum_of n 0 (row_worth (shares_in size)) rows + sum_of n 2 (row_worth 1) rows

-- what is filed in a group and kind
abbrev pub kind_shares : GroupName → Kind → List Filed → ℕ
kind_shares name k fs = sum_by (λ f. cond (is_of name k f) f.shares 0) fs

abbrev pub kind_amount : GroupName → Kind → List Filed → ℕ
kind_amount name k fs = sum_by (λ f. cond (is_of name k f) f.amount 0) fs

abbrev pub total_for : GroupName → Traded → Bool
total_for name x = same_name x.group name

abbrev pub filing_for : GroupName → Filed → Bool
filing_for name f = same_name f.group name

-- a group's totals, as the day and as the tally have them
pub record Known (totals : List Total) (ts : List Traded) (n : ℕ) (g : Group) : Type 0 where
  pub unit : unit_of g.name ts ≡ shares_in g.size
  pub shares : traded_shares g.name ts ≡ (traded_by n totals).shares.count
  pub amount : traded_amount g.name ts ≡ (traded_by n totals).amount.count
  pub some_traded : 0 < traded_shares g.name ts

-- a group's rows, and its filings in the tally
pub record Kept (rows : List Entry) (ts : List Traded) (fs : List Filed) (n : ℕ) (g : Group) : Type 0 where
  pub filed_shares : (k : Kind) → sum_of n (kind_number k) (shares_of (shares_to_unit k g.size)) rows ≡ kind_shares g.name k fs
  pub filed_amount : (k : Kind) → sum_of n (kind_number k) (row_worth (shares_to_unit k g.size)) rows ≡ kind_amount g.name k fs
  pub held_shares : shares_both n g.size rows ≤ traded_shares g.name ts
  pub held_amount : worth_both n g.size rows ≤ traded_amount g.name ts
  pub retained : g.retained ≡ true → shares_both n g.size rows ≡ 0

-- the row of an entry, by the day's records, its figures and its groups
abbrev pub bytes_of : Records → Opened → List Group → Entry → List ℕ
bytes_of s o groups e = record_of (λ f. row_says (record { heading = record { broker = o.broker; date = o.date; group = name_at groups e.group }; entry = e }) f.item) s.row

-- a row: its kind, its group, and the reply that answered it
pub record Placed (s : Records) (o : Opened) (groups : List Group) (pieces : List (List ℕ)) (e : Entry) : Type 0 where
  pub kinds : OfKinds e
  pub group : Group
  pub place : slice_get groups e.group ≡ Some group
  pub answered : Answered s pieces (bytes_of s o groups e)

-- the shares in a trading unit of group n
abbrev pub unit_in : List Group → ℕ → ℕ
unit_in groups n = elim (slice_get groups n) [ Some g ↦ shares_in g.size | None ↦ 0 ]

pub record Issued (s : Records) (next : ℕ) (pieces : List (List ℕ)) : Type 0 where
  pub numbers : List ℕ
  pub told : map (trade_number s) pieces ≡ map Some numbers
  pub rising : Rising 0 next numbers
  pub few : next ≤ 100000000

pub record Sound (b : Book) (t : Tally) (pieces : List (List ℕ)) : Type 0 where
  pub names : t.groups ≡ names_of b.groups
  pub found : (n : ℕ) (g : Group) → slice_get b.groups n ≡ Some g → number_of g.name 0 b.groups ≡ Some n
  pub known : (n : ℕ) (g : Group) → slice_get b.groups n ≡ Some g → Known b.totals t.totals n g
  pub kept : (n : ℕ) (g : Group) → slice_get b.groups n ≡ Some g → Kept b.rows t.totals t.filings n g
  pub unknown : (name : GroupName) → number_of name 0 b.groups ≡ None → (some (total_for name) t.totals ≡ false) × (some (filing_for name) t.filings ≡ false)
  pub placed : AllByRecursion (λ x. x.group < length b.groups) b.totals
  pub rows : AllByRecursion (Placed b.records b.opened b.groups pieces) b.rows
  pub running : AllRun (unit_in b.groups) [] b.rows
  pub issued : Issued b.records b.next pieces

-- a name is that of group n exactly where its number is n
pub same_number : (gs : List Group) (name : GroupName) (m n : ℕ) (g : Group) → number_of name 0 gs ≡ Some m → number_of g.name 0 gs ≡ Some n → slice_get gs n ≡ Some g → same_name name g.name ≡ eqb m n
same_number gs name m n g h k p = go (same_name name g.name) refl
  where
    go : (c : Bool) → same_name name g.name ≡ c → c ≡ eqb m n
    go true e =
        let q : Some m ≡ Some n = sym h ∙ ap (λ x. number_of x 0 gs) (equal_names name g.name e) ∙ k in
        sym (eq-eqb m n (cc))
    go false e = sym (ne_eqb m n (λ q. different q))
      where
        different : m ≡ n → ⊥
        different q =
            let a = at_place name gs m h in
            let r : Some a.group ≡ Some g = sym a.place ∙ ap (slice_get gs) q ∙ p in
            let s : a.group ≡ g = cc in
            let u : name ≡ g.name = sym a.named ∙ ap (λ x. x.name) s in
            let v : same_name name g.name ≡ true = subst (λ x. same_name name x ≡ true) u (same_as_itself name) in
            cc

-- Totals in the tally, one more.
unit_step : (same : Bool) (u v : ℕ) (here : Bool) (w : ℕ) → (0 < cond same u v) → (0 < v → w ≡ v) → cond same u w ≡ cond same u v
unit_step true u v here w h f = refl
unit_step false u v here w h f = f h

pub unit-push : (name : GroupName) (ts : List Traded) (y : Traded) → 0 < unit_of name ts → unit_of name (ts ++ y ∷ []) ≡ unit_of name ts
unit-push name [] y h = absurd (omega arith)
unit-push name (x ∷ xs) y h = unit_step (same_name x.group name) x.unit (unit_of name xs) false (unit_of name (xs ++ y ∷ [])) h (unit-push name xs y)

unit_first : (same : Bool) (u w v : ℕ) (more : Bool) → (same || more) ≡ false → (more ≡ false → w ≡ v) → cond same u w ≡ v
unit_first true u w v more h f = cc
unit_first false u w v more h f = f h

pub unit-new : (name : GroupName) (ts : List Traded) (y : Traded) → some (total_for name) ts ≡ false → same_name y.group name ≡ true → unit_of name (ts ++ y ∷ []) ≡ y.unit
unit-new name [] y h e = cond-true (same_name y.group name) y.unit 0 e
unit-new name (x ∷ xs) y h e = unit_first (same_name x.group name) x.unit (unit_of name (xs ++ y ∷ [])) y.unit (some (total_for name) xs) h (λ k. unit-new name xs y k e)

-- a test that nothing passes picks nothing
pub sum_of_none : {X : Type 0} (test : X → Bool) (w : X → ℕ) (xs : List X) → some test xs ≡ false → sum_by (λ x. cond (test x) (w x) 0) xs ≡ 0
sum_of_none test w [] h = refl
sum_of_none test w (x ∷ xs) h =
    let p = or_parts (test x) (some test xs) h in
    let r = sum_of_none test w xs p.1 in
    let c : cond (test x) (w x) 0 ≡ 0 = cond-false (test x) (w x) 0 p.0 in
    omega (arith, sum_by-cons (λ y. cond (test y) (w y) 0) x xs)

pub some-push : {X : Type 0} (test : X → Bool) (xs : List X) (y : X) → some test xs ≡ false → test y ≡ false → some test (xs ++ y ∷ []) ≡ false
some-push test [] y h k = or_from (test y) false k refl
some-push test (x ∷ xs) y h k =
    let p = or_parts (test x) (some test xs) h in
    or_from (test x) (some test (xs ++ y ∷ [])) p.0 (some-push test xs y p.1 k)
