-- Sums over a list: of weights that agree, of what a test picks, of what a filter keeps.
use Rattle.std.proofs.Common.{◌≡◌, ℕ, ◌+◌, ◌*◌, add-mul, Bool, true, false, cond, List, [], ◌∷◌, ◌++◌, sum_by, filter, refl, ap, arith}
use Rattle.std.specs.List.{AllByRecursion}
use Rattle.std.proofs.lemmas.List.Sums.{sum_by-cons}

pub sum_by-same : {X : Type 0} (f g : X → ℕ) (xs : List X) → AllByRecursion (λ x. f x ≡ g x) xs → sum_by f xs ≡ sum_by g xs
sum_by-same f g [] h = refl
sum_by-same f g (x ∷ xs) h =
    let e = sum_by-same f g xs h.1 in
    omega (arith, h.0, sum_by-cons f x xs, sum_by-cons g x xs)

pub sum_by-none : {X : Type 0} (f : X → ℕ) (xs : List X) → AllByRecursion (λ x. f x ≡ 0) xs → sum_by f xs ≡ 0
sum_by-none f [] h = refl
sum_by-none f (x ∷ xs) h =
    let e = sum_by-none f xs h.1 in
    omega (arith, h.0, sum_by-cons f x xs)

pub sum_by-plus : {X : Type 0} (f g : X → ℕ) (xs : List X) → sum_by (λ x. f x + g x) xs ≡ sum_by f xs + sum_by g xs
sum_by-plus f g [] = refl
sum_by-plus f g (x ∷ xs) =
    let e = sum_by-plus f g xs in
    omega (arith, sum_by-cons f x xs, sum_by-cons g x xs, sum_by-cons (λ y. f y + g y) x xs)

pub sum_by-times : {X : Type 0} (f : X → ℕ) (k : ℕ) (xs : List X) → sum_by (λ x. f x * k) xs ≡ sum_by f xs * k
sum_by-times f k [] = omega arith
sum_by-times f k (x ∷ xs) =
    let e = sum_by-times f k xs in
    let d : (f x + sum_by f xs) * k ≡ f x * k + sum_by f xs * k = add-mul (f x) (sum_by f xs) k in
    let c : sum_by f (x ∷ xs) * k ≡ (f x + sum_by f xs) * k = ap (λ n. n * k) (sum_by-cons f x xs) in
    omega (arith, sum_by-cons (λ y. f y * k) x xs)

kept : {X : Type 0} (b : Bool) (f : X → ℕ) (x : X) (ys : List X) → sum_by f (cond b (x ∷ ys) ys) ≡ cond b (f x) 0 + sum_by f ys
kept true f x ys = sum_by-cons f x ys
kept false f x ys = omega arith

pub sum_by-filter : {X : Type 0} (p : X → Bool) (f : X → ℕ) (xs : List X) → sum_by f (filter p xs) ≡ sum_by (λ x. cond (p x) (f x) 0) xs
sum_by-filter p f [] = refl
sum_by-filter p f (x ∷ xs) =
    let e = sum_by-filter p f xs in
    let k = kept (p x) f x (filter p xs) in
    omega (arith, k, sum_by-cons (λ y. cond (p y) (f y) 0) x xs)

picked_alike : (b c : Bool) (m n : ℕ) → b ≡ c → cond b m n ≡ cond c m n
picked_alike b c m n e = ap (λ d. cond d m n) e

apart : (c : Bool) (m n : ℕ) → cond c m 0 + cond c n 0 ≡ cond c (m + n) 0
apart true m n = refl
apart false m n = refl

-- a test that answers the same for every element
pub sum_by-all : {X : Type 0} (p : X → Bool) (f : X → ℕ) (c : Bool) (xs : List X) → AllByRecursion (λ x. p x ≡ c) xs → sum_by (λ x. cond (p x) (f x) 0) xs ≡ cond c (sum_by f xs) 0
sum_by-all p f true [] h = refl
sum_by-all p f false [] h = refl
sum_by-all p f c (x ∷ xs) h =
    let e = sum_by-all p f c xs h.1 in
    let k : cond (p x) (f x) 0 ≡ cond c (f x) 0 = picked_alike (p x) c (f x) 0 h.0 in
    let a = apart c (f x) (sum_by f xs) in
    let s : cond c (sum_by f (x ∷ xs)) 0 ≡ cond c (f x + sum_by f xs) 0 = ap (λ n. cond c n 0) (sum_by-cons f x xs) in
    omega (arith, sum_by-cons (λ y. cond (p y) (f y) 0) x xs)

-- P of each element gives Q of each
pub all_weaker : {X : Type 0} (P Q : X → Type 0) → ((x : X) → P x → Q x) → (xs : List X) → AllByRecursion P xs → AllByRecursion Q xs
all_weaker P Q f [] h = tt
all_weaker P Q f (x ∷ xs) h = (f x h.0, all_weaker P Q f xs h.1)

pub all_append : {X : Type 0} (P : X → Type 0) (xs ys : List X) → AllByRecursion P xs → AllByRecursion P ys → AllByRecursion P (xs ++ ys)
all_append P [] ys h k = k
all_append P (x ∷ xs) ys h k = (h.0, all_append P xs ys h.1 k)

all_kept : {X : Type 0} (P : X → Type 0) (b : Bool) (x : X) (ys : List X) → P x → AllByRecursion P ys → AllByRecursion P (cond b (x ∷ ys) ys)
all_kept P true x ys h k = (h, k)
all_kept P false x ys h k = k

pub all_filter : {X : Type 0} (P : X → Type 0) (p : X → Bool) (xs : List X) → AllByRecursion P xs → AllByRecursion P (filter p xs)
all_filter P p [] h = tt
all_filter P p (x ∷ xs) h = all_kept P (p x) x (filter p xs) h.0 (all_filter P p xs h.1)

-- what holds of any value holds of each
pub all_of : {X : Type 0} (P : X → Type 0) → ((x : X) → P x) → (xs : List X) → AllByRecursion P xs
all_of P f [] = tt
all_of P f (x ∷ xs) = (f x, all_of P f xs)
