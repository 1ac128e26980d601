-- Clean bytes of an entry are what the entry that they tell is written as. Assumes nothing.
use Rattle.std.proofs.Common.{◌≡◌, ℕ, zero, suc, ◌+◌, ◌-◌, ◌*◌, ◌/◌, ◌%◌, ◌<◌, ◌≤◌, true, eqb, List, [], ◌∷◌, ◌++◌, map, length, get_or, take, drop, replicate, sym, refl, ap, ◌∙◌, ⊎_elim, arith, length-drop, length-take}
use Rattle.std.proofs.Math.Nat.{div-div-eq-div-mul}
use Rattle.std.proofs.Math.Arith.{digits_div, digits_mod}
use Rattle.std.specs.List.{range_with_len}
use Rattle.std.proofs.lemmas.List.FromFn.{fill_by_all}
use Rattle.std.proofs.lemmas.List.{take-append-drop, get_or-take, get_or-drop, get_or_past, length-take-le}
use Rattle.std.proofs.lemmas.Bool.{cases_lt, and_parts, eqb-true}
use Rattle.blocks.specs.Bytes.{four, eight, four_at, eight_at, entry_bytes, entry_of}
use Rattle.inspection.specs.Sound.{all_zero, clean}

-- every byte is below 256
abbrev pub Bytes : List ℕ → Type 0
Bytes bs = (i : ℕ) → get_or bs i 0 < 256

pub bytes-part : (bs : List ℕ) (from width : ℕ) → Bytes bs → Bytes (take width (drop from bs))
bytes-part bs from width h i =
    ⊎_elim
    (λ lt. omega (arith, get_or-take width (drop from bs) i 0 lt, get_or-drop from bs i 0, h (from + i)))
    (λ ge. omega (arith, get_or_past (take width (drop from bs)) i 0 (omega (arith, length-take width (drop from bs)))))
    (cases_lt i width)

-- nothing but zeros

pub all_zero-replicate : (n : ℕ) → all_zero (replicate n 0) ≡ true
all_zero-replicate zero = refl
all_zero-replicate (suc n) = all_zero-replicate n

pub all_zero-means : (bs : List ℕ) → all_zero bs ≡ true → bs ≡ replicate (length bs) 0
all_zero-means [] e = refl
all_zero-means (b ∷ bs) e =
    let parts = and_parts (eqb b 0) (all_zero bs) e in
    (λ i. eqb-true b 0 parts.0 i ∷ all_zero-means bs parts.1 i)

-- numbers of four and eight bytes

-- the lowest byte of what is left of a number, and what is left then
first : (n m r : ℕ) → n ≡ m * 256 + r → r < 256 → (n % 256 ≡ r) × (n / 256 ≡ m)
first n m r e h = (ap (λ x. x % 256) e ∙ digits_mod m h, ap (λ x. x / 256) e ∙ digits_div m h)

later : (n k m r : ℕ) → n / k ≡ m * 256 + r → r < 256 → (n / k % 256 ≡ r) × (n / (k * 256) ≡ m)
later n k m r e h = (ap (λ x. x % 256) e ∙ digits_mod m h, sym (div-div-eq-div-mul n k 256) ∙ ap (λ x. x / 256) e ∙ digits_div m h)

four-forth : (a b c d : ℕ) (rest : List ℕ) → a < 256 → b < 256 → c < 256 → d < 256 → four (a + b * 256 + c * 65536 + d * 16777216) rest ≡ a ∷ b ∷ c ∷ d ∷ rest
four-forth a b c d rest ha hb hc hd =
    let n : ℕ = a + b * 256 + c * 65536 + d * 16777216 in
    let p0 = first n (b + c * 256 + d * 65536) a (omega arith) ha in
    let p1 = later n 256 (c + d * 256) b (p0.1 ∙ (let e : b + c * 256 + d * 65536 ≡ (c + d * 256) * 256 + b = omega arith in e)) hb in
    let p2 = later n 65536 d c (p1.1 ∙ (let e : c + d * 256 ≡ d * 256 + c = omega arith in e)) hc in
    let p3 = later n 16777216 0 d (p2.1 ∙ (let e : d ≡ 0 * 256 + d = omega arith in e)) hd in
    (λ i. p0.0 i ∷ p1.0 i ∷ p2.0 i ∷ p3.0 i ∷ rest)

pub four-in : (s : List ℕ) (i : ℕ) (rest other : List ℕ) → Bytes s → rest ≡ other → four (four_at s i) rest ≡ get_or s i 0 ∷ get_or s (i + 1) 0 ∷ get_or s (i + 2) 0 ∷ get_or s (i + 3) 0 ∷ other
four-in s i rest other h e =
    four-forth (get_or s i 0) (get_or s (i + 1) 0) (get_or s (i + 2) 0) (get_or s (i + 3) 0) rest (h i) (h (i + 1)) (h (i + 2)) (h (i + 3)) ∙
    ap (λ r. get_or s i 0 ∷ get_or s (i + 1) 0 ∷ get_or s (i + 2) 0 ∷ get_or s (i + 3) 0 ∷ r) e

module _ (a b c d e f g h : ℕ) (ha : a < 256) (hb : b < 256) (hc : c < 256) (hd : d < 256) (he : e < 256) (hf : f < 256) (hg : g < 256) (hh : h < 256) where
  abbrev whole : ℕ
  whole = a + b * 256 + c * 65536 + d * 16777216 + e * 4294967296 + f * 1099511627776 + g * 281474976710656 + h * 72057594037927936

  eight-forth : (rest : List ℕ) → eight whole rest ≡ a ∷ b ∷ c ∷ d ∷ e ∷ f ∷ g ∷ h ∷ rest
  eight-forth rest =
      let m1 : ℕ = b + c * 256 + d * 65536 + e * 16777216 + f * 4294967296 + g * 1099511627776 + h * 281474976710656 in
      let m2 : ℕ = c + d * 256 + e * 65536 + f * 16777216 + g * 4294967296 + h * 1099511627776 in
      let m3 : ℕ = d + e * 256 + f * 65536 + g * 16777216 + h * 4294967296 in
      let m4 : ℕ = e + f * 256 + g * 65536 + h * 16777216 in
      let m5 : ℕ = f + g * 256 + h * 65536 in
      let m6 : ℕ = g + h * 256 in
      let p0 = first whole m1 a (omega arith) ha in
      let p1 = later whole 256 m2 b (p0.1 ∙ (let q : m1 ≡ m2 * 256 + b = omega arith in q)) hb in
      let p2 = later whole 65536 m3 c (p1.1 ∙ (let q : m2 ≡ m3 * 256 + c = omega arith in q)) hc in
      let p3 = later whole 16777216 m4 d (p2.1 ∙ (let q : m3 ≡ m4 * 256 + d = omega arith in q)) hd in
      let p4 = later whole 4294967296 m5 e (p3.1 ∙ (let q : m4 ≡ m5 * 256 + e = omega arith in q)) he in
      let p5 = later whole 1099511627776 m6 f (p4.1 ∙ (let q : m5 ≡ m6 * 256 + f = omega arith in q)) hf in
      let p6 = later whole 281474976710656 h g (p5.1 ∙ (let q : m6 ≡ h * 256 + g = omega arith in q)) hg in
      let p7 = later whole 72057594037927936 0 h (p6.1 ∙ (let q : h ≡ 0 * 256 + h = omega arith in q)) hh in
      (λ i. p0.0 i ∷ p1.0 i ∷ p2.0 i ∷ p3.0 i ∷ p4.0 i ∷ p5.0 i ∷ p6.0 i ∷ p7.0 i ∷ rest)

eight-in : (s : List ℕ) (i : ℕ) (rest other : List ℕ) → Bytes s → rest ≡ other →
    eight (eight_at s i) rest ≡ get_or s i 0 ∷ get_or s (i + 1) 0 ∷ get_or s (i + 2) 0 ∷ get_or s (i + 3) 0 ∷ get_or s (i + 4) 0 ∷ get_or s (i + 5) 0 ∷ get_or s (i + 6) 0 ∷ get_or s (i + 7) 0 ∷ other
eight-in s i rest other h e =
    eight-forth (get_or s i 0) (get_or s (i + 1) 0) (get_or s (i + 2) 0) (get_or s (i + 3) 0) (get_or s (i + 4) 0) (get_or s (i + 5) 0) (get_or s (i + 6) 0) (get_or s (i + 7) 0)
    (h i) (h (i + 1)) (h (i + 2)) (h (i + 3)) (h (i + 4)) (h (i + 5)) (h (i + 6)) (h (i + 7)) rest ∙
    ap (λ r. get_or s i 0 ∷ get_or s (i + 1) 0 ∷ get_or s (i + 2) 0 ∷ get_or s (i + 3) 0 ∷ get_or s (i + 4) 0 ∷ get_or s (i + 5) 0 ∷ get_or s (i + 6) 0 ∷ get_or s (i + 7) 0 ∷ r) e

-- the first n bytes, spelled out
spelled : (s : List ℕ) (n : ℕ) → n ≤ length s → take n s ≡ map (λ k. get_or s k 0) (range_with_len 0 n)
spelled s n h = fill_by_all (λ k. get_or s k 0) (take n s) n 0 (length-take-le n s h) (λ k lt. get_or-take n s k 0 lt)

pub entry-forth : (s : List ℕ) → length s ≡ 72 → Bytes s → clean s ≡ true → entry_bytes (entry_of s) ≡ s
unfolding entry_bytes entry_of
entry-forth s long h ok =
    let parts = and_parts (eqb (get_or s 1 0) 0) (all_zero (drop 53 s)) ok in
    let zero-byte : 0 ≡ get_or s 1 0 = sym (eqb-true (get_or s 1 0) 0 parts.0) in
    let end : replicate 19 0 ≡ drop 53 s =
    sym (all_zero-means (drop 53 s) parts.1 ∙ ap (λ n. replicate n 0) (length-drop 53 s ∙ ap (λ n. n - 53) long)) in
    let after : _ =
    four-in s 5 _ _ h (four-in s 9 _ _ h (four-in s 13 _ _ h (four-in s 17 _ _ h (four-in s 21 _ _ h (four-in s 25 _ _ h (four-in s 29 _ _ h (eight-in s 33 _ _ h (four-in s 41 _ _ h (eight-in s 45 _ _ h end))))))))) in
    (λ i. get_or s 0 0 ∷ zero-byte i ∷ get_or s 2 0 ∷ get_or s 3 0 ∷ get_or s 4 0 ∷ after i) ∙
    ap (λ f. f ++ drop 53 s) (sym (spelled s 53 (omega arith))) ∙
    take-append-drop 53 s
