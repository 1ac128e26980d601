-- Lists: what some and all of their elements pass, filters, and a write to one place. Assumes nothing.
use Rattle.std.proofs.Common.{◌≡◌, ℕ, ◌<◌, ◌≢◌, ◌⊎◌, Bool, true, ◌&&◌, List, [], ◌∷◌, Some, length, filter, replicate, set, inl, inr, zero, suc, refl, ap, ⊎_elim, arith}
use Rattle.std.specs.List.{list_all, list_any, slice_get}
use Rattle.std.proofs.lemmas.Bool.{cases_eq}

-- what some element has, and all have besides, gives what both give
pub any_and_all : {X : Type 0} (p q : X → Bool) (b : Bool) → ((x : X) → p x ≡ true → q x ≡ true → b ≡ true) → (xs : List X) → list_any p xs ≡ true → list_all q xs ≡ true → b ≡ true
any_and_all p q b f [] some all = cc
any_and_all p q b f (x ∷ xs) some all =
    let k = f x in
    let r = any_and_all p q b f xs in
    grind arith

pub all_weaker : {X : Type 0} (p q : X → Bool) → ((x : X) → p x ≡ true → q x ≡ true) → (xs : List X) → list_all p xs ≡ true → list_all q xs ≡ true
all_weaker p q f [] all = refl
all_weaker p q f (x ∷ xs) all =
    let k = f x in
    let r = all_weaker p q f xs in
    grind arith

pub all_both : {X : Type 0} (p q : X → Bool) (xs : List X) → list_all p xs ≡ true → list_all q xs ≡ true → list_all (λ x. p x && q x) xs ≡ true
all_both p q [] one other = refl
all_both p q (x ∷ xs) one other =
    let r = all_both p q xs in
    grind arith

-- the same over what a filter leaves
pub all_filtered : {X : Type 0} (p q s : X → Bool) → ((x : X) → p x ≡ true → s x ≡ true → q x ≡ true) → (xs : List X) → list_all p xs ≡ true → list_all q (filter s xs) ≡ true
all_filtered p q s f [] all = refl
all_filtered p q s f (x ∷ xs) all =
    let k = f x in
    let r = all_filtered p q s f xs in
    grind arith

pub any_filtered : {X : Type 0} (p q s : X → Bool) → ((x : X) → p x ≡ true → q x ≡ true → s x ≡ true) → (xs : List X) → list_any p xs ≡ true → list_all q xs ≡ true → list_any p (filter s xs) ≡ true
any_filtered p q s f [] some all = cc
any_filtered p q s f (x ∷ xs) some all =
    let k = f x in
    let r = any_filtered p q s f xs in
    grind arith

-- a filter that all pass leaves the list
pub filter_all : {X : Type 0} (p : X → Bool) (xs : List X) → list_all p xs ≡ true → filter p xs ≡ xs
filter_all p [] all = refl
filter_all p (x ∷ xs) all =
    let r = filter_all p xs in
    grind arith

pub slice_get-set_same : {X : Type 0} (xs : List X) (n : ℕ) (v : X) → n < length xs → slice_get (set xs n v) n ≡ Some v
slice_get-set_same [] n v h = absurd (omega arith)
slice_get-set_same (x ∷ xs) zero v h = refl
slice_get-set_same (x ∷ xs) (suc n) v h = slice_get-set_same xs n v (omega arith)

pub slice_get-set_other : {X : Type 0} (xs : List X) (n : ℕ) (v : X) (j : ℕ) → j ≢ n → slice_get (set xs n v) j ≡ slice_get xs j
slice_get-set_other [] n v j h = refl
slice_get-set_other (x ∷ xs) zero v zero h = absurd (h refl)
slice_get-set_other (x ∷ xs) zero v (suc j) h = refl
slice_get-set_other (x ∷ xs) (suc n) v zero h = refl
slice_get-set_other (x ∷ xs) (suc n) v (suc j) h = slice_get-set_other xs n v j (λ e. h (ap suc e))

-- what is read after a write is what was written, or what stood elsewhere
pub read_after : {X : Type 0} (xs : List X) (n : ℕ) (v : X) (j : ℕ) (y : X) → n < length xs → slice_get (set xs n v) j ≡ Some y → ((j ≡ n) × (y ≡ v)) ⊎ ((j ≢ n) × (slice_get xs j ≡ Some y))
read_after xs n v j y h is =
    ⊎_elim (λ same. inl (same, let e = slice_get-set_same xs n v h in grind arith)) (λ apart. inr (apart, let e = slice_get-set_other xs n v j apart in cc)) (cases_eq j n)

pub slice_get-replicate : {X : Type 0} (n : ℕ) (x : X) (i : ℕ) (y : X) → slice_get (replicate n x) i ≡ Some y → y ≡ x
slice_get-replicate zero x i y is = cc
slice_get-replicate (suc n) x zero y is = cc
slice_get-replicate (suc n) x (suc i) y is = slice_get-replicate n x i y is
