-- Records read from the front of a buffer, and numbers that only rise.
use Rattle.std.proofs.Common.{◌≡◌, ℕ, ◌+◌, ◌≤◌, List, [], ◌∷◌, ◌++◌, map, length, take, drop, Some, Option, refl, sym, ap, subst, ◌∙◌, arith, append_assoc}
use Rattle.std.specs.List.{AllByRecursion, AllPairs}
use Rattle.std.proofs.lemmas.List.{take_at, drop_at}
use Rattle.std.proofs.lemmas.List.Elements.{All-from_recursion}
use Rattle.std.proofs.lemmas.List.Kept.{AllPairs-cons}
use Rattle.octets.specs.Splice.{spliced}
use Rattle.book.specs.Heard.{records_in}
use Rattle.book.proofs.Sums.{all_weaker}

-- records one behind another
abbrev pub joined : List (List ℕ) → List ℕ
joined [] = []
joined (r ∷ rs) = r ++ joined rs

pub records-joined : (w : ℕ) (rs : List (List ℕ)) (rest : List ℕ) → AllByRecursion (λ r. length r ≡ w) rs → records_in w (length rs) (joined rs ++ rest) ≡ rs
records-joined w [] rest h = refl
records-joined w (r ∷ rs) rest h =
    let a : (r ++ joined rs) ++ rest ≡ r ++ (joined rs ++ rest) = append_assoc r (joined rs) rest in
    let e : take w ((r ++ joined rs) ++ rest) ≡ r = ap (take w) a ∙ take_at r (joined rs ++ rest) w h.0 in
    let f : drop w ((r ++ joined rs) ++ rest) ≡ joined rs ++ rest = ap (drop w) a ∙ drop_at r (joined rs ++ rest) w h.0 in
    let g : records_in w (length rs) (drop w ((r ++ joined rs) ++ rest)) ≡ rs = ap (records_in w (length rs)) f ∙ records-joined w rs rest h.1 in
    ap (λ x. x ∷ records_in w (length rs) (drop w ((r ++ joined rs) ++ rest))) e ∙ ap (λ l. r ∷ l) g

-- the records that were written to the front of a buffer are read from it
pub records-spliced : (w n : ℕ) (rs : List (List ℕ)) (buffer bytes : List ℕ) → AllByRecursion (λ r. length r ≡ w) rs → n ≡ length rs → bytes ≡ joined rs → records_in w n (spliced buffer 0 bytes) ≡ rs
records-spliced w n rs buffer bytes h e f =
    subst (λ k. records_in w k (spliced buffer 0 bytes) ≡ rs) (sym e)
    (subst (λ b. records_in w (length rs) (spliced buffer 0 b) ≡ rs) (sym f)
    (records-joined w rs (drop (0 + length (joined rs)) buffer) h))

-- from n up, each above the one before, and below m
abbrev pub Rising : ℕ → ℕ → List ℕ → Type 0
Rising n m [] = n ≤ m
Rising n m (x ∷ xs) = (n ≤ x) × Rising (x + 1) m xs

-- one after another from n on
abbrev pub Successive : ℕ → List ℕ → Type 0
Successive n [] = Unit {0}
Successive n (x ∷ xs) = (x ≡ n) × Successive (n + 1) xs

lower_start : (n m k : ℕ) (xs : List ℕ) → n ≤ m → Rising m k xs → Rising n k xs
lower_start n m k [] h r = omega (arith, h, r)
lower_start n m k (x ∷ xs) h r = (omega (arith, h, r.0), r.1)

pub rising-append : (n m k : ℕ) (xs ys : List ℕ) → Rising n m xs → Rising m k ys → Rising n k (xs ++ ys)
rising-append n m k [] ys h r = lower_start n m k ys h r
rising-append n m k (x ∷ xs) ys h r = (h.0, rising-append (x + 1) m k xs ys h.1 r)

pub rising-successive : (n m : ℕ) (xs : List ℕ) → m ≡ n + length xs → Successive n xs → Rising n m xs
rising-successive n m [] e h = omega (arith, e)
rising-successive n m (x ∷ xs) e h =
    let p : n ≡ x = sym h.0 in
    (omega (arith, p), subst (λ k. Rising (k + 1) m xs) p (rising-successive (n + 1) m xs (omega (arith, e)) h.1))

above : (n m : ℕ) (xs : List ℕ) → Rising n m xs → AllByRecursion (λ x. n ≤ x) xs
above n m [] h = tt
above n m (x ∷ xs) h = (h.0, all_weaker (λ y. x + 1 ≤ y) (λ y. n ≤ y) (λ y k. omega (arith, k, h.0)) xs (above (x + 1) m xs h.1))

abbrev Differ : Option ℕ → Option ℕ → Type 0
Differ x y = x ≡ y → ⊥

all_some : (P : Option ℕ → Type 0) (xs : List ℕ) → AllByRecursion (λ x. P (Some x)) xs → AllByRecursion P (map Some xs)
all_some P [] h = tt
all_some P (x ∷ xs) h = (h.0, all_some P xs h.1)

some_differ : (x y : ℕ) → x + 1 ≤ y → Some x ≡ Some y → ⊥
some_differ x y h e =
    let f : x ≡ y = cc in
    omega (arith, h, f)

-- numbers that only rise are all different
pub rising-differ : (n m : ℕ) (xs : List ℕ) → Rising n m xs → AllPairs Differ (map Some xs)
rising-differ n m [] h = λ i j d less within. absurd (omega (arith, less, within))
rising-differ n m (x ∷ xs) h =
    AllPairs-cons Differ (Some x) (map Some xs)
    (All-from_recursion (Differ (Some x)) (map Some xs) (all_some (Differ (Some x)) xs (all_weaker (λ y. x + 1 ≤ y) (λ y. Differ (Some x) (Some y)) (λ y k. some_differ x y k) xs (above (x + 1) m xs h.1))))
    (rising-differ (x + 1) m xs h.1)
