-- Bytes as arrays of one width, and what a search through a list finds. Assumes nothing.
use Rattle.std.proofs.Common.{◌≡◌, ℕ, zero, suc, ◌+◌, ◌*◌, ◌<◌, ◌≤◌, Bool, true, false, cond, not, ◌&&◌, ltb, one-add, ⊎_elim, List, [], ◌∷◌, length, get_or, take, drop, Some, None, Option, sym, refl, ap, subst, ◌∙◌, arith, length-take}
use native.Mathlib.Numerals.{unary_clauses}
use Rattle.std.proofs.Math.Bool.{not-not}
use Rattle.std.proofs.lemmas.Bool.{lt-ltb, le-ltb, cases_lt}
use Rattle.std.specs.Option.{MatchOption}
use Rattle.std.specs.List.{list_all, prefix_len, position_or_len}
use Rattle.std.specs.Simd.{first_chunks}
use Rattle.std.proofs.lemmas.List.FromFn.{get_or-map-range_with_len, length-map-range_with_len}
use Rattle.std.proofs.lemmas.List.{drop-drop, get_or-take, same_lists}
use Rattle.blocks.specs.Image.{block_at}
use Rattle.inspection.specs.Sound.{places_in}

pub length-chunks : (n m : ℕ) (xs : List ℕ) → length (first_chunks n m xs) ≡ m
length-chunks n zero xs = refl
length-chunks n (suc m) xs = ap suc (length-chunks n m (drop n xs))

pub chunk-is : (n m k : ℕ) (xs : List ℕ) (d : List ℕ) → k < m → get_or (first_chunks n m xs) k d ≡ take n (drop (n * k) xs)
chunk-is n zero k xs d lt = absurd (omega arith)
chunk-is n (suc m) zero xs d lt = let none : n * 0 ≡ 0 = omega arith in ap (λ k. take n (drop k xs)) (sym none)
chunk-is n (suc m) (suc k) xs d lt = let one : n + n * k ≡ n * suc k = simp unary_clauses (omega arith) in chunk-is n m k (drop n xs) d (omega arith) ∙ ap (take n) (drop-drop (n * k) n xs ∙ ap (λ j. drop j xs) one)

-- the first of them
pub first-chunks : (n a m : ℕ) (xs : List ℕ) → a ≤ m → take a (first_chunks n m xs) ≡ first_chunks n a xs
first-chunks n zero m xs h = refl
first-chunks n (suc a) zero xs h = absurd (omega arith)
first-chunks n (suc a) (suc m) xs h = ap (λ l. take n xs ∷ l) (first-chunks n a m (drop n xs) (omega arith))

-- block k of those of some bytes
pub one-block : (n k j : ℕ) (bytes : List ℕ) (items : List (List ℕ)) → items ≡ first_chunks 512 n bytes → j < n → k ≡ j → get_or items j [] ≡ block_at k bytes
one-block n k j bytes items is lt e = ap (λ l. get_or l j []) is ∙ chunk-is 512 n j bytes [] lt ∙ ap (λ m. block_at m bytes) (sym e)

-- a block's first places
pub places-are : (c m : ℕ) (p : List ℕ) → c ≤ m → take c (first_chunks 72 m (drop 4 p)) ≡ places_in c p
places-are c m p h =
    let mine : length (take c (first_chunks 72 m (drop 4 p))) ≡ c = length-take c (first_chunks 72 m (drop 4 p)) ∙ omega (arith, length-chunks 72 m (drop 4 p)) in
    let theirs = length-map-range_with_len (λ s. take 72 (drop (4 + 72 * s) p)) 0 c in
    same_lists (take c (first_chunks 72 m (drop 4 p))) (places_in c p) (mine ∙ sym theirs)
    (λ i d lt.
    get_or-take c (first_chunks 72 m (drop 4 p)) i d (omega arith) ∙ chunk-is 72 m i (drop 4 p) d (omega arith) ∙
    ap (take 72) (drop-drop (72 * i) 4 p) ∙
    sym (get_or-map-range_with_len (λ s. take 72 (drop (4 + 72 * s) p)) 0 c i i d (omega arith) (omega arith)))

-- a search for what fails a test

ltb-suc : (n l : ℕ) → ltb (suc n) (suc l) ≡ ltb n l
ltb-suc n l = ⊎_elim (λ lt. lt-ltb (suc n) (suc l) (omega arith) ∙ sym (lt-ltb n l lt)) (λ ge. le-ltb (suc n) (suc l) (omega arith) ∙ sym (le-ltb n l ge)) (cases_lt n l)

step : (b r : Bool) (n l : ℕ) → ltb n l ≡ not r → ltb (cond b (1 + n) 0) (suc l) ≡ not (b && r)
step true r n l e = ap (λ k. ltb k (suc l)) (one-add n) ∙ ltb-suc n l ∙ e
step false r n l e = lt-ltb 0 (suc l) (omega arith)

told : (b : Bool) (n : ℕ) (r : Option ℕ) → r ≡ cond (not b) (Some n) None → MatchOption r (b ≡ true) (λ i. (b ≡ false) × (n ≡ i))
told true n r e = subst (λ o. MatchOption o (true ≡ true) (λ i. (true ≡ false) × (n ≡ i))) (sym e) refl
told false n r e = subst (λ o. MatchOption o (false ≡ true) (λ i. (false ≡ false) × (n ≡ i))) (sym e) (refl, refl)

module _ {X : Type 0} (t : X → Bool) where
  all-by-length : (xs : List X) → ltb (prefix_len t xs) (length xs) ≡ not (list_all t xs)
  all-by-length [] = refl
  all-by-length (x ∷ xs) = step (t x) (list_all t xs) (prefix_len t xs) (length xs) (all-by-length xs)

  pub sought : (xs : List X) (r : Option ℕ) → r ≡ cond (ltb (position_or_len (λ x. not (t x)) xs) (length xs)) (Some (position_or_len (λ x. not (t x)) xs)) None →
      MatchOption r (list_all t xs ≡ true) (λ i. (list_all t xs ≡ false) × (prefix_len t xs ≡ i))
  sought xs r is =
      told (list_all t xs) (prefix_len t xs) r
      (is ∙
      (λ i. cond {A = Option ℕ} (ltb (prefix_len (λ x. not-not (t x) i) xs) (length xs)) (Some (prefix_len (λ x. not-not (t x) i) xs)) None) ∙
      ap (λ b. cond {A = Option ℕ} b (Some (prefix_len t xs)) None) (all-by-length xs))
