-- Numbers and amounts as they are shown read back as themselves. Assumes nothing.
use Rattle.std.proofs.Common.{◌≡◌, ℕ, ◌+◌, ◌-◌, ◌*◌, ◌/◌, ◌%◌, ◌^◌, ◌<◌, ◌≤◌, Bool, true, false, not, eqb, ltb, leb, List, [], ◌∷◌, ◌++◌, length, get_or, take, drop, Some, None, decimal, Option, sym, refl, ap, ◌∙◌, subst, ⊎_elim, one-add, arith, length-append}
use Rattle.std.specs.List.{AllByRecursion}
use Rattle.std.proofs.lemmas.Fmt.{decimal_by_steps, decimal_digit, length-decimal-le}
use Rattle.std.proofs.lemmas.List.{length_push, get_or_append_left, take_at, drop_at, drop-drop}
use Rattle.std.proofs.ByRecursion.{All-append, All-push}
use Rattle.std.proofs.lemmas.Bool.{cases_Bool, cases_lt, cases_eq, and_parts, and_from, ltb-true, eqb-true, lt-ltb, le-ltb, le-leb, eq-eqb, ne_eqb, or_from, cond-true, cond-false, cond_both}
use Rattle.octets.specs.Digits.{is_digit}
use Rattle.octets.specs.Options.{and_then}
use Rattle.std.specs.Option.{option_or}
use Rattle.yuan.specs.Read.{comma, point, with_character, digits, number, point_in, decimals, behind, most_yuan, together, yuan}
use Rattle.yuan.specs.Show.{comma_follows, with_comma, parted, grouped, yuan_text}

then_same : (o : Option ℕ) (f g : ℕ → Option ℕ) → ((k : ℕ) → f k ≡ g k) → and_then o f ≡ and_then o g
then_same (Some x) f g e = e x
then_same None f g e = refl

then_some : (o : Option ℕ) → and_then o (λ k. Some k) ≡ o
then_some (Some x) = refl
then_some None = refl

then-then : (o : Option ℕ) (f g : ℕ → Option ℕ) → and_then (and_then o f) g ≡ and_then o (λ k. and_then (f k) g)
then-then (Some x) f g = refl
then-then None f g = refl

-- one character, where a comma is due or not, and what the rest reads as
front : (due is : Bool) (m c : ℕ) (rest : ℕ → Option ℕ) → due ≡ is → and_then (with_character due m c) rest ≡ and_then (with_character is m c) rest
front due is m c rest e = ap (λ d. and_then (with_character d m c) rest) e

module _ (c : ℕ) (cs : List ℕ) where
  no-comma : comma_follows (length cs) ≡ false → parted (c ∷ cs) ≡ c ∷ parted cs
  no-comma e = ap (λ l. c ∷ (l ++ parted cs)) (cond-false _ _ _ e)

  a-comma : comma_follows (length cs) ≡ true → parted (c ∷ cs) ≡ c ∷ comma ∷ parted cs
  a-comma e = ap (λ l. c ∷ (l ++ parted cs)) (cond-true _ _ _ e)

-- three, six, nine and so on digits that follow
threes : (k : ℕ) → comma_follows k ≡ true → (0 < k) × (k % 3 ≡ 0)
threes k e = let p = and_parts (ltb 0 k) (eqb (k % 3) 0) e in (ltb-true 0 k p.0, eqb-true (k % 3) 0 p.1)

no-threes : (k : ℕ) → comma_follows k ≡ false → (k % 3 ≡ 0) → k ≡ 0
no-threes k e z =
    ⊎_elim (λ h. absurd (let t : true ≡ false = sym (and_from (ltb 0 k) _ (lt-ltb 0 k h) (eq-eqb (k % 3) 0 z)) ∙ e in let y : ◌≡◌ {A = ℕ} 0 1 = cc in omega arith)) (λ h. omega arith) (cases_lt 0 k)

length-parted : (ds : List ℕ) → length (parted ds) ≡ length ds + (length ds - 1) / 3
length-parted [] = refl
length-parted (c ∷ cs) =
    let before = length-parted cs in
    ⊎_elim
    (λ yes. let t = threes (length cs) yes in let e = ap length (a-comma c cs yes) in omega arith)
    (λ no. let t : (length cs % 3 ≡ 0) → length cs ≡ 0 = no-threes (length cs) no in let e = ap length (no-comma c cs no) in ⊎_elim (λ z. let y = t z in omega arith) (λ nz. omega arith) (cases_eq (length cs % 3) 0))
    (cases_Bool (comma_follows (length cs)))

-- a comma is due where one stands, and nowhere else
module _ (c : ℕ) (cs : List ℕ) where
  past : comma_follows (length cs) ≡ true → (eqb (length (comma ∷ parted cs) % 4) 3 ≡ false) × (eqb (length (parted cs) % 4) 3 ≡ true)
  past stands =
      let t = threes (length cs) stands in
      let l = length-parted cs in
      (ne_eqb _ 3 (λ e. omega arith), eq-eqb _ 3 (omega arith))

  within : comma_follows (length cs) ≡ false → eqb (length (parted cs) % 4) 3 ≡ false
  within none =
      let l = length-parted cs in
      ne_eqb _ 3
      (λ e. ⊎_elim (λ z. let y = no-threes (length cs) none z in omega arith) (λ nz. omega arith) (cases_eq (length cs % 3) 0))

-- commas make no difference to what is read
digits-parted : (m : ℕ) (ds : List ℕ) → digits true m (parted ds) ≡ digits false m ds
digits-parted m [] = refl
digits-parted m (c ∷ cs) =
    ⊎_elim
    (λ yes.
    ap (digits true m) (a-comma c cs yes) ∙
    front _ false m c (λ k. digits true k (comma ∷ parted cs)) (past c cs yes).0 ∙
    then_same (with_character false m c) _ _ (λ k. front _ true k comma (λ n. digits true n (parted cs)) (past c cs yes).1 ∙ digits-parted k cs))
    (λ no.
    ap (digits true m) (no-comma c cs no) ∙
    front _ false m c (λ k. digits true k (parted cs)) (within c cs no) ∙
    then_same (with_character false m c) _ _ (λ k. digits-parted k cs))
    (cases_Bool (comma_follows (length cs)))

digits_push : (m : ℕ) (ds : List ℕ) (c : ℕ) → digits false m (ds ++ c ∷ []) ≡ and_then (digits false m ds) (λ k. with_character false k c)
digits_push m [] c = then_some (with_character false m c)
digits_push m (d ∷ ds) c =
    then_same (with_character false m d) _ _ (λ k. digits_push k ds c) ∙ sym (then-then (with_character false m d) (λ k. digits false k ds) (λ k. with_character false k c))

digit-read : (k d : ℕ) → d < 10 → with_character false k (48 + d) ≡ Some (k * 10 + d)
digit-read k d h =
    cond-true (is_digit (48 + d)) _ _ (and_from (leb 48 (48 + d)) _ (le-leb 48 (48 + d) (omega arith)) (le-leb (48 + d) 57 (omega arith))) ∙
    ap (λ n. Some (k * 10 + n)) (let e : 48 + d - 48 ≡ d = omega arith in e)

-- a character that is no point
abbrev Clear : ℕ → Type 0
Clear c = not (eqb c point) ≡ true

digit_clear : (d : ℕ) → Clear (48 + d)
digit_clear d = ap not (ne_eqb (48 + d) point (λ e. omega arith))

-- what a number's digits read as, and what stands in front
record Reads (n : ℕ) (ds : List ℕ) : Type 0 where
  value : digits false 0 ds ≡ Some n
  some : 0 < length ds
  ahead : 48 ≤ get_or ds 0 0
  clear : AllByRecursion Clear ds

reads-decimal : (n : ℕ) → n < 2 ^ 64 → Reads n (decimal n)
reads-decimal = decimal_by_steps Reads one more
  where
    one : (n : ℕ) → n < 10 → Reads n ((48 + n) ∷ [])
    one n h = record {
      value = ap (λ o. and_then o (λ k. Some k)) (digit-read 0 n h) ∙ ap (λ k. Some k) (let e : 0 * 10 + n ≡ n = omega arith in e);
      some = omega arith;
      ahead = omega arith;
      clear = (digit_clear n, tt);
    }

    more : (n : ℕ) (ds : List ℕ) → 10 ≤ n → Reads (n / 10) ds → Reads n (ds ++ ((48 + n % 10) ∷ []))
    more n ds h r = record {
      value =
          digits_push 0 ds (48 + n % 10) ∙ ap (λ o. and_then o (λ k. with_character false k (48 + n % 10))) r.value ∙ digit-read (n / 10) (n % 10) (omega arith) ∙
          ap (λ k. Some k) (let e : n / 10 * 10 + n % 10 ≡ n = omega arith in e);
      some = omega (arith, length_push ds (48 + n % 10));
      ahead = subst (λ k. 48 ≤ k) (sym (get_or_append_left ds _ 0 0 r.some)) r.ahead;
      clear = All-push Clear ds (48 + n % 10) r.clear (digit_clear (n % 10));
    }

ahead-parted : (ds : List ℕ) → get_or (parted ds) 0 0 ≡ get_or ds 0 0
ahead-parted [] = refl
ahead-parted (c ∷ cs) = refl

pub number-back : (n : ℕ) → n < 10 ^ 15 → number (grouped n) ≡ Some n
number-back n h =
    let r : Reads n (decimal n) = reads-decimal n (omega arith) in
    let short : length (decimal n) ≤ 15 = length-decimal-le 15 n (omega arith) h (omega arith) in
    let l : length (grouped n) ≡ length (decimal n) + (length (decimal n) - 1) / 3 = length-parted (decimal n) in
    let digit-ahead : 48 ≤ get_or (grouped n) 0 0 = subst (λ k. 48 ≤ k) (sym (ahead-parted (decimal n))) r.ahead in
    cond-false _ _ _ (or_from _ _ (ne_eqb (length (grouped n)) 0 (λ e. omega (arith, r.some))) (le-ltb 19 (length (grouped n)) (omega arith))) ∙
    ap (λ o. option_or o (digits false 0 (grouped n))) (cond-false _ _ _ (ne_eqb (get_or (grouped n) 0 0) comma (λ e. omega arith)) ∙ digits-parted 0 (decimal n) ∙ r.value)

clear-parted : (ds : List ℕ) → AllByRecursion Clear ds → AllByRecursion Clear (parted ds)
clear-parted [] a = tt
clear-parted (c ∷ cs) a =
    All-append Clear (with_comma c (length cs)) (parted cs) (a.0, cond_both (comma_follows (length cs)) (comma ∷ []) [] (AllByRecursion Clear) (λ _. (refl, tt)) (λ _. tt)) (clear-parted cs a.1)

-- the point behind a text that has none
point-behind : (front rest : List ℕ) → AllByRecursion Clear front → point_in (front ++ point ∷ rest) ≡ length front
point-behind [] rest a = refl
point-behind (c ∷ cs) rest a =
    cond-true (not (eqb c point)) _ _ a.0 ∙ ap (λ n. 1 + n) (point-behind cs rest a.1) ∙ one-add (length cs)

two-decimals : (t o : ℕ) → t < 10 → o < 10 → decimals ((48 + t) ∷ (48 + o) ∷ []) ≡ Some ((t * 10 + o) * 100)
two-decimals t o ht ho =
    ap (λ d. and_then (and_then d (λ k. digits false k ((48 + o) ∷ []))) (λ n. Some (n * 100))) (digit-read 0 t ht) ∙
    ap (λ d. and_then (and_then d (λ k. Some k)) (λ n. Some (n * 100))) (digit-read (0 * 10 + t) o ho) ∙
    ap (λ n. Some (n * 100)) (let e : (0 * 10 + t) * 10 + o ≡ t * 10 + o = omega arith in e)

pub yuan-back : (cents : ℕ) → cents < 10 ^ 14 → yuan (yuan_text cents) ≡ Some (cents * 100)
yuan-back cents h =
    let whole : ℕ = cents / 100 in
    let rest : List ℕ = decimal (cents % 100 / 10) ++ decimal (cents % 10) in
    let word : List ℕ = yuan_text cents in
    let r : Reads whole (decimal whole) = reads-decimal whole (omega arith) in
    let place : point_in word ≡ length (grouped whole) = point-behind (grouped whole) rest (clear-parted (decimal whole) r.clear) in
    let front : take (point_in word) word ≡ grouped whole = take_at (grouped whole) (point ∷ rest) (point_in word) (sym place) in
    let two : rest ≡ (48 + cents % 100 / 10) ∷ (48 + cents % 10) ∷ [] = (λ i. decimal_digit (cents % 100 / 10) (omega arith) i ++ decimal_digit (cents % 10) (omega arith) i) in
    let back : drop (point_in word + 1) word ≡ rest =
    ap (λ k. drop (k + 1) word) place ∙ sym (drop-drop 1 (length (grouped whole)) word) ∙ ap (drop 1) (drop_at (grouped whole) (point ∷ rest) (length (grouped whole)) refl) in
    let inside : point_in word ≡ length word → ⊥ = λ e. omega (arith, length-append (grouped whole) (point ∷ rest)) in
    let part : behind word (point_in word) ≡ Some ((cents % 100 / 10 * 10 + cents % 10) * 100) =
    cond-false _ _ _ (ne_eqb (point_in word) (length word) inside) ∙ ap decimals (back ∙ two) ∙ two-decimals (cents % 100 / 10) (cents % 10) (omega arith) (omega arith) in
    ap (λ w. and_then (number w) (λ n. together n (behind word (point_in word)))) front ∙
    ap (λ o. and_then o (λ n. together n (behind word (point_in word)))) (number-back whole (omega arith)) ∙
    ap (together whole) part ∙
    cond-false _ _ _ (le-ltb most_yuan whole (omega arith)) ∙
    ap (λ k. Some k) (let e : whole * 10000 + (cents % 100 / 10 * 10 + cents % 10) * 100 ≡ cents * 100 = omega arith in e)

-- and so does what a function answers that reads by the rule
pub number_back_at : (word : List ℕ) (r : Option ℕ) → r ≡ number word → (n : ℕ) → n < 10 ^ 15 → word ≡ grouped n → r ≡ Some n
number_back_at word r e n h is = e ∙ ap number is ∙ number-back n h

pub yuan_back_at : (word : List ℕ) (r : Option ℕ) → r ≡ yuan word → (n : ℕ) → n < 10 ^ 14 → word ≡ yuan_text n → r ≡ Some (n * 100)
yuan_back_at word r e n h is = e ∙ ap yuan is ∙ yuan-back n h
