-- Laws of `digits` and `number_after`.
use Rattle.std.proofs.Common.{◌≡◌, ℕ, zero, suc, ◌+◌, ◌-◌, ◌*◌, ◌/◌, ◌%◌, ◌^◌, ◌<◌, ◌≤◌, true, false, cond, ltb, List, ◌∷◌, length, get_or, drop, Some, None, sym, refl, ap, ◌∙◌, add_assoc, mod-lt, mod-eq_of_lt, mul_assoc, add-mul, pow-suc, add-one, arith}
use native.Mathlib.Nat.{div-div-eq-div-mul, pow-le-pow_right, one-le-pow, pow-succ'}
use Rattle.std.proofs.lemmas.Bool.Decides.{nat_tests}
use lib.Arith.{mod-mul}
use Rattle.std.proofs.lemmas.List.{at_drop_more}
use Rattle.octets.specs.Digits.{digits, is_digit, number_after, number_in}

pub pow_more : (b i : ℕ) → b ^ (i + 1) ≡ b ^ i * b
pow_more b i = rw add-one (pow-suc b i)

-- n of i places in base b has at most k, where i does
pub pow_room : (b n i k : ℕ) → 0 < b → n < b ^ i → i ≤ k → n < b ^ k
pow_room b n i k a h l = let p : b ^ i ≤ b ^ k = pow-le-pow_right a l in omega arith

pub digits_more : (i n : ℕ) → digits (i + 1) n ≡ (48 + n / 10 ^ i % 10) ∷ digits i n
digits_more i n = rw add-one refl

pub div-more : (b i n : ℕ) → n / b ^ i / b ≡ n / b ^ (i + 1)
div-more b i n = div-div-eq-div-mul n (b ^ i) b ∙ sym (ap (λ x. n / x) (pow_more b i))

-- what the byte at i does
pub digit-more : (n : ℕ) (xs : List ℕ) (i : ℕ) → i < length xs → is_digit (get_or xs i 0) ≡ true → number_after n (drop i xs) ≡ number_after (n * 10 + (get_or xs i 0 - 48)) (drop (i + 1) xs)
digit-more n xs i h d = at_drop_more (number_after n) xs i 0 h ∙ ap (λ b. cond b (number_after (n * 10 + (get_or xs i 0 - 48)) (drop (i + 1) xs)) None) d

pub is_digit_lem : (b : ℕ) → 48 ≤ b → b ≤ 57 → is_digit b ≡ true
is_digit_lem b l h = grind (arith, nat_tests)

pub number-digits-after : (a w n : ℕ) → number_after a (digits w n) ≡ Some (a * 10 ^ w + n % 10 ^ w)
number-digits-after a zero n = ap Some (omega arith)
number-digits-after a (suc w) n =
    let d : n / 10 ^ w % 10 < 10 = mod-lt (n / 10 ^ w) (omega arith) in
    let t : is_digit (48 + n / 10 ^ w % 10) ≡ true = is_digit_lem (48 + n / 10 ^ w % 10) (omega arith) (omega arith) in
    let m : n % (10 * 10 ^ w) ≡ (n / 10 ^ w % 10) * 10 ^ w + n % 10 ^ w = mod-mul n (omega arith) (one-le-pow w 10 (omega arith)) in
    let p : 10 ^ suc w ≡ 10 * 10 ^ w = pow-succ' 10 w in
    let q : (a * 10 + n / 10 ^ w % 10) * 10 ^ w ≡ a * 10 * 10 ^ w + (n / 10 ^ w % 10) * 10 ^ w = add-mul (a * 10) (n / 10 ^ w % 10) (10 ^ w) in
    let r : a * 10 * 10 ^ w ≡ a * (10 * 10 ^ w) = mul_assoc a 10 (10 ^ w) in
    let u : 48 + n / 10 ^ w % 10 - 48 ≡ n / 10 ^ w % 10 = omega arith in
    let v : (a * 10 + n / 10 ^ w % 10) * 10 ^ w + n % 10 ^ w ≡ a * 10 ^ suc w + n % 10 ^ suc w = rw p (rw (m, q, r) (add_assoc (a * (10 * 10 ^ w)) ((n / 10 ^ w % 10) * 10 ^ w) (n % 10 ^ w))) in
    ap (λ b. cond b (number_after (a * 10 + (48 + n / 10 ^ w % 10 - 48)) (digits w n)) None) t
    ∙ ap (λ x. number_after (a * 10 + x) (digits w n)) u
    ∙ number-digits-after (a * 10 + n / 10 ^ w % 10) w n ∙ ap Some v

-- digits that hold all of n
pub after-back : (w n : ℕ) → n < 10 ^ w → number_after 0 (digits w n) ≡ Some n
after-back w n l = number-digits-after 0 w n ∙ ap Some (let p = mod-eq_of_lt l in omega arith)

pub length_digits : (w n : ℕ) → length (digits w n) ≡ w
length_digits zero n = refl
length_digits (suc w) n = ap suc (length_digits w n)

pub short : (w n : ℕ) → w ≤ 19 → ltb 19 (length (digits w n)) ≡ false
short w n h = let k = length_digits w n in grind (arith, nat_tests)

-- what is written in up to 19 digits reads back
pub number-back : (w n : ℕ) → w ≤ 19 → n < 10 ^ w → number_in (digits w n) ≡ Some n
number-back w n h l = ap (λ b. cond b None (number_after 0 (digits w n))) (short w n h) ∙ after-back w n l
