-- What is read from digits or from a text is written again as it was.
use Rattle.std.proofs.Common.{◌≡◌, ℕ, suc, ◌+◌, ◌-◌, ◌*◌, ◌/◌, ◌%◌, ◌^◌, ◌<◌, ◌≤◌, Bool, true, false, cond, ltb, List, [], ◌∷◌, length, drop, Some, None, refl, ap, ap₂, ◌∙◌, sym, subst, arith}
use Rattle.std.proofs.lemmas.Bool.{and_parts, and_from}
use Rattle.std.proofs.lemmas.Bool.Decides.{nat_tests}
use Rattle.std.proofs.lemmas.Nat.{div-mul-add, mod-mul-add}
use Rattle.std.proofs.lemmas.Option.{same_Some}
use Rattle.std.specs.List.{list_all, prefix_len}
use Rattle.octets.specs.Digits.{digits, is_digit, number_after, number_in}
use Rattle.octets.specs.Texts.{letter_or_digit, is_blank, packed, unpacked}
use Rattle.octets.proofs.Numbers.{div-more, length_digits}
use Rattle.octets.proofs.Packs.{length-unpacked}

-- a digit as a number
digit_value : (b : ℕ) → is_digit b ≡ true → (48 ≤ b) × (b ≤ 57)
digit_value b h = grind (arith, nat_tests)

-- numbers in digits, from those that are read first on
after_step : (a n b : ℕ) (bs : List ℕ) (t : Bool) → is_digit b ≡ t → cond t (number_after (a * 10 + (b - 48)) bs) None ≡ Some n → (number_after (a * 10 + (b - 48)) bs ≡ Some n → (digits (length bs) n ≡ bs) × (n / 10 ^ length bs ≡ a * 10 + (b - 48))) → (digits (length (b ∷ bs)) n ≡ b ∷ bs) × (n / 10 ^ length (b ∷ bs) ≡ a)
after_step a n b bs false d h rest = grind arith
after_step a n b bs true d h rest =
    let r = rest h in
    let v = digit_value b d in
    let q : n / 10 ^ length bs / 10 ≡ n / 10 ^ (length bs + 1) = div-more 10 (length bs) n in
    let e : 48 + n / 10 ^ length bs % 10 ≡ b = omega arith in
    let k : length bs + 1 ≡ length (b ∷ bs) = omega arith in
    (ap₂ (λ x xs. x ∷ xs) e r.0, ap (λ i. n / 10 ^ i) (sym k) ∙ sym q ∙ omega arith)

after-again : (a n : ℕ) (bs : List ℕ) → number_after a bs ≡ Some n → (digits (length bs) n ≡ bs) × (n / 10 ^ length bs ≡ a)
after-again a n [] h = let e = same_Some a n h in (refl, omega arith)
after-again a n (b ∷ bs) h = after_step a n b bs (is_digit b) refl h (after-again (a * 10 + (b - 48)) n bs)

short_number : (n : ℕ) (bs : List ℕ) (long : Bool) → cond long None (number_after 0 bs) ≡ Some n → number_after 0 bs ≡ Some n
short_number n bs false h = h
short_number n bs true h = grind arith

pub digits-number : (bs : List ℕ) (n : ℕ) → number_in bs ≡ Some n → digits (length bs) n ≡ bs
digits-number bs n h = (after-again 0 n bs (short_number n bs (ltb 19 (length bs)) h)).0

-- a byte
abbrev pub is_byte : ℕ → Bool
is_byte b = ltb b 256

letter-byte : (b : ℕ) → letter_or_digit b ≡ true → is_byte b ≡ true
letter-byte b h = grind (arith, nat_tests)

blank-byte : (b : ℕ) → is_blank b ≡ true → is_byte b ≡ true
blank-byte b h = grind (arith, nat_tests)

every_more : (p q : ℕ → Bool) → ((b : ℕ) → p b ≡ true → q b ≡ true) → (bs : List ℕ) → list_all p bs ≡ true → list_all q bs ≡ true
every_more p q f [] h = refl
every_more p q f (b ∷ bs) h = let t = and_parts (p b) (list_all p bs) h in and_from (q b) (list_all q bs) (f b t.0) (every_more p q f bs t.1)

pub letters-bytes : (bs : List ℕ) → list_all letter_or_digit bs ≡ true → list_all is_byte bs ≡ true
letters-bytes = every_more letter_or_digit is_byte letter-byte

-- letters or digits, and then blanks
security_step : (b : ℕ) (bs : List ℕ) (t : Bool) → letter_or_digit b ≡ t → list_all is_blank (drop (cond t (1 + prefix_len letter_or_digit bs) 0) (b ∷ bs)) ≡ true → (list_all is_blank (drop (prefix_len letter_or_digit bs) bs) ≡ true → list_all is_byte bs ≡ true) → list_all is_byte (b ∷ bs) ≡ true
security_step b bs false d h rest = every_more is_blank is_byte blank-byte (b ∷ bs) h
security_step b bs true d h rest =
    let e : 1 + prefix_len letter_or_digit bs ≡ suc (prefix_len letter_or_digit bs) = omega arith in
    and_from (is_byte b) (list_all is_byte bs) (letter-byte b d) (rest (subst (λ k. list_all is_blank (drop k (b ∷ bs)) ≡ true) e h))

pub security-bytes : (bs : List ℕ) → list_all is_blank (drop (prefix_len letter_or_digit bs) bs) ≡ true → list_all is_byte bs ≡ true
security-bytes [] h = refl
security-bytes (b ∷ bs) h = security_step b bs (letter_or_digit b) refl h (security-bytes bs)

-- a packed text unpacks
pub unpacked-packed : (bs : List ℕ) → list_all is_byte bs ≡ true → unpacked (length bs) (packed bs) ≡ bs
unpacked-packed [] h = refl
unpacked-packed (b ∷ bs) h =
    let t = and_parts (is_byte b) (list_all is_byte bs) h in
    let l : b < 256 = grind (arith, nat_tests) in
    ap₂ (λ x n. x ∷ unpacked (length bs) n) (mod-mul-add (packed bs) 256 b l) (div-mul-add (packed bs) 256 b l) ∙ ap (λ xs. b ∷ xs) (unpacked-packed bs t.1)

-- in a field as wide as the bytes
pub unpacked-wide : (w n : ℕ) (bs : List ℕ) → unpacked w n ≡ bs → unpacked (length bs) n ≡ bs
unpacked-wide w n bs h = let e = length-unpacked w n in ap (λ k. unpacked k n) (sym (ap length h) ∙ e) ∙ h

pub digits-wide : (w n : ℕ) (bs : List ℕ) → digits w n ≡ bs → digits (length bs) n ≡ bs
digits-wide w n bs h = let e = length_digits w n in ap (λ k. digits k n) (sym (ap length h) ∙ e) ∙ h
