-- Taking groups one after another.
use Rattle.std.proofs.Common.{◌≡◌, ℕ, zero, suc, ◌+◌, ◌<◌, ◌≤◌, Bool, true, false, cond, not, ◌&&◌, ◌||◌, eqb, ltb, List, [], ◌∷◌, length, Some, None, Option, filter, set, sym, refl, ap, ◌∙◌, arith, eq-eqb}
use Rattle.std.specs.Bool.{◌==◌}
use Rattle.std.specs.List.{slice_get}
use Rattle.std.proofs.lemmas.Bool.{ne_eqb}
use Rattle.std.proofs.lemmas.Bool.Decides.{nat_tests}
use Rattle.std.proofs.lemmas.Option.{slice_get_past}
use Rattle.lots.specs.Units.{kind_number}
use Rattle.lots.specs.declared.units.Kind.TheVariants.{BoardLot, OddLot}
use Rattle.ledger.specs.Rows.{others}
use Rattle.ledger.specs.declared.row.Entry.{Entry}
use Rattle.groups.specs.Groups.{retained, retained_at}
use Rattle.groups.specs.declared.kept.Group.{Group}
use Rattle.groups.specs.declared.kept.Total.{Total}
use Rattle.lines.specs.Open.{standing_at, unfinished}
use Rattle.lines.specs.Taking.{taken_at, rows_left, marked}

-- those of the taken groups whose numbers are below n
abbrev pub before : ℕ → (ℕ → Bool) → ℕ → Bool
before n taken k = ltb k n && taken k

-- one group more
abbrev pub with_one : ℕ → (ℕ → Bool) → ℕ → Bool
with_one n taken k = eqb k n || taken k

taken-at : (n : ℕ) (taken : ℕ → Bool) (k : ℕ) → taken n ≡ true → with_one n (before n taken) k ≡ before (n + 1) taken k
taken-at n taken k e = grind (arith, nat_tests)

passed-at : (n : ℕ) (taken : ℕ → Bool) (k : ℕ) → taken n ≡ false → before n taken k ≡ before (n + 1) taken k
passed-at n taken k e = grind (arith, nat_tests)

none-at : (taken : ℕ → Bool) (k : ℕ) → false ≡ before 0 taken k
none-at taken k = grind (arith, nat_tests)

pub one_taken : (n : ℕ) (taken : ℕ → Bool) → taken n ≡ true → with_one n (before n taken) ≡ before (n + 1) taken
one_taken n taken e = λ i k. taken-at n taken k e i

pub passed_over : (n : ℕ) (taken : ℕ → Bool) → taken n ≡ false → before n taken ≡ before (n + 1) taken
passed_over n taken e = λ i k. passed-at n taken k e i

pub none_before : (taken : ℕ → Bool) → ◌≡◌ {A = ℕ → Bool} (λ _. false) (before 0 taken)
none_before taken = λ i k. none-at taken k i

-- ---- rows

module _ (p q : Entry → Bool) where
  step : (x : Entry) (xs ys : List Entry) (a : Bool) → filter q xs ≡ ys → filter q (cond a (x ∷ xs) xs) ≡ cond (a && q x) (x ∷ ys) ys
  step x xs ys true e = ap (λ zs. cond (q x) (x ∷ zs) zs) e
  step x xs ys false e = e

  pub filter-both : (xs : List Entry) → filter q (filter p xs) ≡ filter (λ x. p x && q x) xs
  filter-both [] = refl
  filter-both (x ∷ xs) = step x (filter p xs) (filter (λ x. p x && q x) xs) (p x) (filter-both xs)

one-side : (g a b : Bool) → (not (g && a) && not (g && b)) ≡ not (g && (a || b))
one-side true true b = refl
one-side true false b = refl
one-side false a b = refl

-- without a group's rows of one kind, and then of the other
pub both_gone : (n board odd : ℕ) (rows less left : List Entry) → board ≡ kind_number BoardLot → odd ≡ kind_number OddLot → less ≡ filter (others n board) rows → left ≡ filter (others n odd) less → left ≡ rows_left (λ k. eqb k n) rows
both_gone n board odd rows less left b o one two =
    two ∙ ap (λ k. filter (others n k) less) o
    ∙ ap (filter (others n (kind_number OddLot))) (one ∙ ap (λ k. filter (others n k) rows) b)
    ∙ filter-both (others n (kind_number BoardLot)) (others n (kind_number OddLot)) rows
    ∙ ap (λ t. filter t rows) (λ i e. one-side (eqb e.group n) (eqb e.kind (kind_number BoardLot)) (eqb e.kind (kind_number OddLot)) i)

two-groups : (a b k : Bool) → (not (a && k) && not (b && k)) ≡ not ((b || a) && k)
two-groups true true true = refl
two-groups true true false = refl
two-groups true false true = refl
two-groups true false false = refl
two-groups false true k = refl
two-groups false false k = refl

pub rows_more : (n : ℕ) (taken : ℕ → Bool) (rows : List Entry) → rows_left (λ k. eqb k n) (rows_left taken rows) ≡ rows_left (with_one n taken) rows
rows_more n taken rows = filter-both _ _ rows ∙ ap (λ t. filter t rows) (λ i e. two-groups (taken e.group) (eqb e.group n) (eqb e.kind (kind_number BoardLot) || eqb e.kind (kind_number OddLot)) i)

pub rows_none : (rows : List Entry) → rows ≡ rows_left (λ _. false) rows
rows_none [] = refl
rows_none (e ∷ rows) = ap (λ xs. e ∷ xs) (rows_none rows)

-- ---- groups

pub marked_none : (n : ℕ) (gs : List Group) → gs ≡ marked (λ _. false) n gs
marked_none n [] = refl
marked_none n (g ∷ gs) = ap (λ xs. g ∷ xs) (marked_none (n + 1) gs)

-- the groups from number m on are none of number n
marked-apart : (n : ℕ) (taken : ℕ → Bool) (m : ℕ) (gs : List Group) → n < m → marked taken m gs ≡ marked (with_one n taken) m gs
marked-apart n taken m [] h = refl
marked-apart n taken m (g ∷ gs) h =
    ap (λ b. cond (b || taken m) (retained g) g ∷ marked taken (m + 1) gs) (sym (ne_eqb m n (λ e. omega arith)))
    ∙ ap (λ xs. cond (eqb m n || taken m) (retained g) g ∷ xs) (marked-apart n taken (m + 1) gs (omega arith))

retained-twice : (b : Bool) (g : Group) → retained (cond b (retained g) g) ≡ retained g
retained-twice true g = refl
retained-twice false g = refl

behind : (g : Group) (gs : List Group) (j : ℕ) (o : Option Group) → elim o [ Some x ↦ set (g ∷ gs) (suc j) (retained x) | None ↦ g ∷ gs ] ≡ g ∷ elim o [ Some x ↦ set gs j (retained x) | None ↦ gs ]
behind g gs j (Some x) = refl
behind g gs j None = refl

marked-at : (taken : ℕ → Bool) (gs : List Group) (j m n : ℕ) → n ≡ m + j → retained_at j (marked taken m gs) ≡ marked (with_one n taken) m gs
marked-at taken [] j m n e = refl
marked-at taken (g ∷ gs) zero m n e =
    ap (λ x. x ∷ marked taken (m + 1) gs) (retained-twice (taken m) g)
    ∙ ap (λ b. cond (b || taken m) (retained g) g ∷ marked taken (m + 1) gs) (sym (eq-eqb m n (omega arith)))
    ∙ ap (λ xs. cond (eqb m n || taken m) (retained g) g ∷ xs) (marked-apart n taken (m + 1) gs (omega arith))
marked-at taken (g ∷ gs) (suc j) m n e =
    behind (cond (taken m) (retained g) g) (marked taken (m + 1) gs) j (slice_get (marked taken (m + 1) gs) j)
    ∙ ap (λ xs. cond (taken m) (retained g) g ∷ xs) (marked-at taken gs j (m + 1) n (omega arith))
    ∙ ap (λ b. cond (b || taken m) (retained g) g ∷ marked (with_one n taken) (m + 1) gs) (sym (ne_eqb m n (λ s. omega arith)))

pub marked_more : (n : ℕ) (taken : ℕ → Bool) (gs : List Group) → retained_at n (marked taken 0 gs) ≡ marked (with_one n taken) 0 gs
marked_more n taken gs = marked-at taken gs n 0 n (omega arith)

-- ---- where there is no group, none is taken

pub none_past : (gs : List Group) (ts : List Total) (rows : List Entry) (account n : ℕ) → length gs ≤ n → taken_at gs ts rows account n ≡ false
none_past gs ts rows account n h =
    ap (λ o. elim o [ Some g ↦ (g.name.account == account) && unfinished (standing_at ts rows n g) | None ↦ false ]) (slice_get_past gs n h)
