-- Laws of packed texts.
use Rattle.std.proofs.Common.{◌≡◌, ℕ, zero, suc, ◌+◌, ◌-◌, ◌*◌, ◌/◌, ◌%◌, ◌^◌, ◌<◌, ◌≤◌, List, [], ◌∷◌, ◌++◌, length, get_or, drop, replicate, sym, refl, ap, ◌∙◌, add-one, pow-suc, arith, length-append, w64}
use lib.ListN.{length-replicate}
use Rattle.std.proofs.lemmas.List.{drop_more, drop_all, drop-replicate}
use Rattle.std.specs.Int.{from_le_bytes}
use Rattle.octets.specs.Texts.{packed, unpacked}

-- one byte more at the front
pub packed_more : (xs : List ℕ) (i j : ℕ) → j ≡ i + 1 → i < length xs → packed (drop i xs) ≡ packed (drop j xs) * 256 + get_or xs i 0
packed_more xs i j e h = ap packed (drop_more xs i 0 h) ∙ ap (λ k. packed (drop k xs) * 256 + get_or xs i 0) (sym e)

pub length-unpacked : (w n : ℕ) → length (unpacked w n) ≡ w
length-unpacked zero n = refl
length-unpacked (suc w) n = ap suc (length-unpacked w (n / 256))

pub unpacked-more : (w v n : ℕ) → w ≡ v + 1 → unpacked w n ≡ (n % 256) ∷ unpacked v (n / 256)
unpacked-more w v n e = ap (λ k. unpacked k n) e ∙ rw add-one refl

pub packed-zeros : (xs : List ℕ) (k : ℕ) → packed (xs ++ replicate k 0) ≡ packed xs
packed-zeros [] zero = refl
packed-zeros [] (suc k) = omega (arith, packed-zeros [] k)
packed-zeros (x ∷ xs) k = ap (λ n. n * 256 + x) (packed-zeros xs k)

-- eight bytes, as the library reads them
pub packed-eight : (xs : List ℕ) → length xs ≡ 8 → from_le_bytes w64 xs ≡ packed xs
packed-eight xs e =
    omega (
      arith,
      packed_more xs 0 1 refl (omega arith),
      packed_more xs 1 2 refl (omega arith),
      packed_more xs 2 3 refl (omega arith),
      packed_more xs 3 4 refl (omega arith),
      packed_more xs 4 5 refl (omega arith),
      packed_more xs 5 6 refl (omega arith),
      packed_more xs 6 7 refl (omega arith),
      packed_more xs 7 8 refl (omega arith),
      ap packed (drop_all 8 xs (omega arith)),
    )

pub packed-below : (xs : List ℕ) → ((i : ℕ) → get_or xs i 0 < 256) → packed xs < 256 ^ length xs
packed-below [] bytes = omega arith
packed-below (x ∷ xs) bytes = omega (arith, bytes 0, packed-below xs (λ i. bytes (suc i)), pow-suc 256 (length xs))

-- up to eight bytes, laid at the front of zeros
pub packed-padded : (xs ys : List ℕ) (n : ℕ) → length xs ≤ 8 → ys ≡ xs → n ≡ from_le_bytes w64 (ys ++ drop (length xs) (replicate 8 0)) → n ≡ packed xs
packed-padded xs ys n h e f =
    let z : drop (length xs) (replicate 8 0) ≡ replicate (8 - length xs) 0 = drop-replicate (length xs) 8 0 in
    let l : length (ys ++ drop (length xs) (replicate 8 0)) ≡ 8 = rw (e, z) (simp (length-append, length-replicate) (omega arith)) in
    f ∙ packed-eight _ l ∙ ap (λ t. packed (t ++ drop (length xs) (replicate 8 0))) e ∙ ap (λ t. packed (xs ++ t)) z ∙ packed-zeros xs (8 - length xs)
