-- What rows of a group and kind come to: appended, taken out, and their running figures.
use Rattle.std.proofs.Common.{◌≡◌, ℕ, ◌+◌, ◌*◌, Bool, true, false, cond, ◌&&◌, eqb, List, [], ◌∷◌, ◌++◌, ◌⊎◌, inl, inr, sum_by, filter, None, refl, sym, ap, subst, ◌∙◌, arith, append_assoc, append-nil, add-zero, mul_assoc, mul_comm}
use Rattle.std.specs.List.{AllByRecursion}
use Rattle.std.proofs.lemmas.List.Sums.{sum_by-append}
use Rattle.std.proofs.lemmas.List.Elements.{filter-append}
use Rattle.std.proofs.lemmas.Bool.{cond-true, cond-false, and_parts, eqb-true}
use Rattle.lots.specs.Units.{kind_number}
use Rattle.lots.specs.declared.units.Kind.TheVariants.{BoardLot, OddLot}
use Rattle.ledger.specs.Rows.{of_kind, picked, quantity_of, worth_of}
use Rattle.ledger.specs.declared.row.Entry.{Entry}
use Rattle.lines.specs.Entries.{row_worth}
use Rattle.book.specs.Held.{kind_worth, shares_held, worth_held, alike, Runs}
use Rattle.book.proofs.Sums.{all_of, sum_by-same, sum_by-plus, sum_by-times, sum_by-filter, sum_by-all}

-- what the rows of group n and kind k come to by a weight
abbrev pub sum_of : ℕ → ℕ → (Entry → ℕ) → List Entry → ℕ
sum_of n k w rows = sum_by (λ e. cond (of_kind n k e) (w e) 0) rows

-- the shares of an entry in units of s shares
abbrev pub shares_of : ℕ → Entry → ℕ
shares_of s e = e.quantity * s

and-true : (b : Bool) → (b && true) ≡ b
and-true true = refl
and-true false = refl

picked-cond : (n k : ℕ) (m : ℕ) (e : Entry) → cond (picked n k None e) m 0 ≡ cond (of_kind n k e) m 0
picked-cond n k m e = ap (λ b. cond b m 0) (and-true (of_kind n k e))

cond-times : (b : Bool) (m s : ℕ) → cond b m 0 * s ≡ cond b (m * s) 0
cond-times true m s = refl
cond-times false m s = omega arith

pub quantity-sum : (n k : ℕ) (rows : List Entry) → quantity_of (picked n k None) rows ≡ sum_of n k (λ e. e.quantity) rows
quantity-sum n k rows = sum_by-same _ _ rows (all_of _ (λ e. picked-cond n k e.quantity e) rows)

times : (n k s : ℕ) (w : Entry → ℕ) (rows : List Entry) → sum_by (λ e. cond (picked n k None e) (w e) 0) rows * s ≡ sum_of n k (λ e. w e * s) rows
times n k s w rows =
    sym (sum_by-times (λ e. cond (picked n k None e) (w e) 0) s rows)
    ∙ sum_by-same _ _ rows (all_of _ (λ e. ap (λ m. m * s) (picked-cond n k (w e) e) ∙ cond-times (of_kind n k e) (w e) s) rows)

pub shares-sum : (n k s : ℕ) (rows : List Entry) → quantity_of (picked n k None) rows * s ≡ sum_of n k (shares_of s) rows
shares-sum n k s rows = times n k s (λ e. e.quantity) rows

swap_last : (a b c : ℕ) → a * b * c ≡ a * c * b
swap_last a b c = mul_assoc a b c ∙ ap (λ m. a * m) (mul_comm b c) ∙ sym (mul_assoc a c b)

pub worth-sum : (n k s : ℕ) (rows : List Entry) → worth_of (picked n k None) rows * s ≡ sum_of n k (row_worth s) rows
worth-sum n k s rows =
    times n k s (λ e. e.quantity * e.price) rows
    ∙ sum_by-same _ _ rows (all_of _ (λ e. ap (λ m. cond (of_kind n k e) m 0) (swap_last e.quantity e.price s)) rows)

pub sum_of-append : (n k : ℕ) (w : Entry → ℕ) (xs ys : List Entry) → sum_of n k w (xs ++ ys) ≡ sum_of n k w xs + sum_of n k w ys
sum_of-append n k w xs ys = sum_by-append (λ e. cond (of_kind n k e) (w e) 0) xs ys

-- a row of a group and kind
abbrev pub InKind : ℕ → ℕ → Entry → Type 0
InKind n k e = (e.group ≡ n) × (e.kind ≡ k)

-- rows that are all of one group and kind
pub sum_of-alike : (n k m j : ℕ) (w : Entry → ℕ) (xs : List Entry) → AllByRecursion (InKind m j) xs → sum_of n k w xs ≡ cond (eqb m n && eqb j k) (sum_by w xs) 0
sum_of-alike n k m j w xs h = sum_by-all (of_kind n k) w (eqb m n && eqb j k) xs (go xs h)
  where
    go : (xs : List Entry) → AllByRecursion (InKind m j) xs → AllByRecursion (λ e. of_kind n k e ≡ (eqb m n && eqb j k)) xs
    go [] h = tt
    go (x ∷ xs) h = (ap (λ a. eqb a n && eqb x.kind k) h.0.0 ∙ ap (λ b. eqb m n && eqb b k) h.0.1, go xs h.1)

-- no row is of two groups or kinds
pub apart : (n k m j : ℕ) (e : Entry) → ((n ≡ m) × (k ≡ j) → ⊥) → (of_kind n k e && of_kind m j e) ≡ false
apart n k m j e differ = go (of_kind n k e) (of_kind m j e) refl refl
  where
    go : (b c : Bool) → of_kind n k e ≡ b → of_kind m j e ≡ c → (b && c) ≡ false
    go false c p q = refl
    go true false p q = refl
    go true true p q =
        let x = and_parts (eqb e.group n) (eqb e.kind k) p in
        let y = and_parts (eqb e.group m) (eqb e.kind j) q in
        absurd (differ (sym (eqb-true e.group n x.0) ∙ eqb-true e.group m y.0, sym (eqb-true e.kind k x.1) ∙ eqb-true e.kind j y.1))

-- The rows of a group are those of its two kinds.
abbrev pub OfKinds : Entry → Type 0
OfKinds e = (e.kind ≡ kind_number BoardLot) ⊎ (e.kind ≡ kind_number OddLot)

by_kind : (w : ℕ → ℕ) (c : Bool) (kind : ℕ) → (kind ≡ 0) ⊎ (kind ≡ 2) → cond c (w kind) 0 ≡ cond (c && eqb kind 0) (w 0) 0 + cond (c && eqb kind 2) (w 2) 0
by_kind w false kind h = refl
by_kind w true kind (inl e) = subst (λ k. w k ≡ cond (eqb k 0) (w 0) 0 + cond (eqb k 2) (w 2) 0) (sym e) (sym (add-zero (w 0)))
by_kind w true kind (inr e) = subst (λ k. w k ≡ cond (eqb k 0) (w 0) 0 + cond (eqb k 2) (w 2) 0) (sym e) (omega arith)

two_kinds : (n : ℕ) (w : ℕ → Entry → ℕ) (rows : List Entry) → AllByRecursion OfKinds rows → sum_by (λ e. cond (eqb e.group n) (w e.kind e) 0) rows ≡ sum_of n 0 (w 0) rows + sum_of n 2 (w 2) rows
two_kinds n w rows h = sum_by-same _ _ rows (go rows h) ∙ sum_by-plus _ _ rows
  where
    go : (rows : List Entry) → AllByRecursion OfKinds rows → AllByRecursion (λ e. cond (eqb e.group n) (w e.kind e) 0 ≡ cond (of_kind n 0 e) (w 0 e) 0 + cond (of_kind n 2 e) (w 2 e) 0) rows
    go [] h = tt
    go (e ∷ es) h = (by_kind (λ k. w k e) (eqb e.group n) e.kind h.0, go es h.1)

pub shares-held : (n u : ℕ) (rows : List Entry) → AllByRecursion OfKinds rows → shares_held n u rows ≡ sum_of n 0 (shares_of u) rows + sum_of n 2 (shares_of 1) rows
shares-held n u rows h = two_kinds n (λ k e. e.quantity * cond (eqb k 0) u 1) rows h

pub worth-held : (n u : ℕ) (rows : List Entry) → AllByRecursion OfKinds rows → worth_held n u rows ≡ sum_of n 0 (row_worth u) rows + sum_of n 2 (row_worth 1) rows
worth-held n u rows h = two_kinds n (λ k e. (e.quantity * cond (eqb k 0) u 1) * e.price) rows h

-- Running figures, row after row; unit tells the shares in a trading unit of a group.
abbrev pub AllRun : (ℕ → ℕ) → List Entry → List Entry → Type 0
AllRun unit before [] = Unit {0}
AllRun unit before (e ∷ es) = Runs (unit e.group) before e × AllRun unit (before ++ e ∷ []) es

pub run-append : (unit : ℕ → ℕ) (before xs ys : List Entry) → AllRun unit before xs → AllRun unit (before ++ xs) ys → AllRun unit before (xs ++ ys)
run-append unit before [] ys h k = subst (λ l. AllRun unit l ys) (append-nil before) k
run-append unit before (x ∷ xs) ys h k = (h.0, run-append unit (before ++ x ∷ []) xs ys h.1 (subst (λ l. AllRun unit l ys) (sym (append_assoc before (x ∷ []) xs)) k))

-- each row by itself
pub run-each : (unit : ℕ → ℕ) (before rows front : List Entry) (e : Entry) (behind : List Entry) → AllRun unit before rows → rows ≡ front ++ e ∷ behind → Runs (unit e.group) (before ++ front) e
run-each unit before [] [] e behind h q = cc
run-each unit before [] (f ∷ fs) e behind h q = cc
run-each unit before (x ∷ xs) [] e behind h q =
    let p : x ≡ e = cc in
    subst (λ y. Runs (unit y.group) (before ++ []) y) p (subst (λ l. Runs (unit x.group) l x) (sym (append-nil before)) h.0)
run-each unit before (x ∷ xs) (f ∷ fs) e behind h q =
    let p : x ≡ f = cc in
    let r : xs ≡ fs ++ e ∷ behind = cc in
    let s = run-each unit (before ++ x ∷ []) xs fs e behind h.1 r in
    subst (λ y. Runs (unit e.group) (before ++ y ∷ fs) e) p (subst (λ l. Runs (unit e.group) l e) (append_assoc before (x ∷ []) fs) s)

-- Where a test keeps all rows alike or none, running figures stay.
abbrev pub Whole : (Entry → Bool) → Type 0
Whole p = (e x : Entry) → p e ≡ true → alike e x ≡ true → p x ≡ true

kept_alike : (b c : Bool) (m : ℕ) → (c ≡ true → b ≡ true) → cond b (cond c m 0) 0 ≡ cond c m 0
kept_alike true c m h = refl
kept_alike false true m h = let e = h refl in cc
kept_alike false false m h = refl

same_sum : (p : Entry → Bool) (whole : Whole p) (e : Entry) → p e ≡ true → (w : Entry → ℕ) (xs : List Entry) → sum_by (λ x. cond (alike e x) (w x) 0) (filter p xs) ≡ sum_by (λ x. cond (alike e x) (w x) 0) xs
same_sum p whole e h w xs = sum_by-filter p (λ x. cond (alike e x) (w x) 0) xs ∙ sum_by-same _ _ xs (all_of _ (λ x. kept_alike (p x) (alike e x) (w x) (whole e x h)) xs)

kept_here : (p : Entry → Bool) (e : Entry) → p e ≡ true → filter p (e ∷ []) ≡ e ∷ []
kept_here p e h = cond-true (p e) (e ∷ []) [] h

kept_push : (p : Entry → Bool) (before : List Entry) (e : Entry) → p e ≡ true → filter p (before ++ e ∷ []) ≡ filter p before ++ e ∷ []
kept_push p before e h = filter-append p before (e ∷ []) ∙ ap (λ l. filter p before ++ l) (kept_here p e h)

gone_push : (p : Entry → Bool) (before : List Entry) (e : Entry) → p e ≡ false → filter p (before ++ e ∷ []) ≡ filter p before
gone_push p before e h = filter-append p before (e ∷ []) ∙ ap (λ l. filter p before ++ l) (cond-false (p e) (e ∷ []) [] h) ∙ append-nil (filter p before)

pub run-filter : (unit : ℕ → ℕ) (p : Entry → Bool) (whole : Whole p) (before xs : List Entry) → AllRun unit before xs → AllRun unit (filter p before) (filter p xs)
run-filter unit p whole before [] h = tt
run-filter unit p whole before (x ∷ xs) h = go (p x) refl (run-filter unit p whole (before ++ x ∷ []) xs h.1)
  where
    go : (b : Bool) → p x ≡ b → AllRun unit (filter p (before ++ x ∷ [])) (filter p xs) → AllRun unit (filter p before) (cond b (x ∷ filter p xs) (filter p xs))
    go true e r =
        let k = kept_push p before x e in (
          record {
            quantity = h.0.quantity ∙ sym (same_sum p whole x e (λ y. y.quantity) (before ++ x ∷ [])) ∙ ap (λ l. sum_by (λ y. cond (alike x y) y.quantity 0) l) k;
            amount = h.0.amount ∙ sym (same_sum p whole x e (kind_worth (unit x.group)) (before ++ x ∷ [])) ∙ ap (λ l. sum_by (λ y. cond (alike x y) (kind_worth (unit x.group) y) 0) l) k;
          },
          subst (λ l. AllRun unit l (filter p xs)) k r,
        )
    go false e r = subst (λ l. AllRun unit l (filter p xs)) (gone_push p before x e) r
