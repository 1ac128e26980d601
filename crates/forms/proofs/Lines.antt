-- What is read from a part of a line is written again as it was.
use Rattle.std.proofs.Common.{◌≡◌, ℕ, ◌+◌, ◌-◌, ◌*◌, ◌/◌, ◌%◌, ◌^◌, ◌≤◌, Bool, true, false, cond, not, ltb, leb, eqb, ◌&&◌, List, [], ◌∷◌, length, take, drop, get_or, codes, bytes_eq, Some, None, refl, ap, ◌∙◌, sym, subst, arith}
use Rattle.std.proofs.lemmas.Bool.{and_parts, eqb-true, leb-true}
use Rattle.std.proofs.lemmas.Option.{cond_some, same_Some}
use Rattle.std.proofs.lemmas.Slice.Eq.{bytes_eq-Decides}
use Rattle.std.proofs.lemmas.List.{take_all}
use Rattle.std.specs.List.{list_all, prefix_len}
use Rattle.ledger.specs.declared.row.OrderNumber.{OrderNumber}
use Rattle.octets.specs.Digits.{digits, number_in}
use Rattle.octets.specs.Texts.{letter_or_digit, is_blank, is_code, is_security, packed, unpacked}
use Rattle.lots.specs.Units.{kind_number}
use Rattle.lots.specs.declared.units.Kind.{Kind}
use Rattle.lots.specs.declared.units.Kind.TheVariants.{BoardLot, OddLot}
use Rattle.families.specs.Accounts.{account_of}
use Rattle.families.specs.Lines.{order_of, broker_of, type_of}
use Rattle.families.specs.declared.family.Rules.{Rules}
use Rattle.forms.specs.Replies.{order_text}
use Rattle.forms.specs.Totals.{kind_in, side_in, security_in}
use Rattle.forms.proofs.Again.{digits-number, letters-bytes, security-bytes, unpacked-packed}

-- a code of w letters or digits
code-again : (w : ℕ) (bs : List ℕ) → is_code w bs ≡ true → unpacked w (packed bs) ≡ bs
code-again w bs h =
    let t = and_parts (eqb (length bs) w) (list_all letter_or_digit bs) h in
    ap (λ k. unpacked k (packed bs)) (sym (eqb-true (length bs) w t.0)) ∙ unpacked-packed bs (letters-bytes bs t.1)

pub broker-again : (bs : List ℕ) (n : ℕ) → broker_of bs ≡ Some n → unpacked 4 n ≡ bs
broker-again bs n h =
    let t = cond_some (is_code 4 bs) (packed bs) n h in
    ap (unpacked 4) (sym t.1) ∙ code-again 4 bs t.0

pub security-again : (bs : List ℕ) (n : ℕ) → security_in bs ≡ Some n → unpacked 6 n ≡ bs
security-again bs n h =
    let t = cond_some (is_security bs && not (bytes_eq bs (codes "ZZZZZZ"))) (packed bs) n h in
    let s = and_parts (is_security bs) (not (bytes_eq bs (codes "ZZZZZZ"))) t.0 in
    let u = and_parts (eqb (length bs) 6) (ltb 0 (prefix_len letter_or_digit bs) && list_all is_blank (drop (prefix_len letter_or_digit bs) bs)) s.0 in
    let v = and_parts (ltb 0 (prefix_len letter_or_digit bs)) (list_all is_blank (drop (prefix_len letter_or_digit bs) bs)) u.1 in
    ap (unpacked 6) (sym t.1) ∙ ap (λ k. unpacked k (packed bs)) (sym (eqb-true (length bs) 6 u.0)) ∙ unpacked-packed bs (security-bytes bs v.1)

-- an order number as one text
text_of : (bs : List ℕ) → length bs ≡ 5 → get_or bs 0 0 + 256 * packed (take 4 (drop 1 bs)) ≡ packed bs
text_of [] h = omega arith
text_of (b ∷ bs) h =
    let e : take 4 bs ≡ bs = take_all 4 bs (omega arith) in
    ap (λ xs. b + 256 * packed xs) e ∙ omega arith

pub order-again : (bs : List ℕ) (o : OrderNumber) → order_of bs ≡ Some o → unpacked 5 (order_text o) ≡ bs
order-again bs o h =
    let n : OrderNumber = record { first = get_or bs 0 0; rest = packed (take 4 (drop 1 bs)) } in
    let t = cond_some (is_code 5 bs) n o h in
    let u = and_parts (eqb (length bs) 5) (list_all letter_or_digit bs) t.0 in
    ap (λ x. unpacked 5 (order_text x)) (sym t.1) ∙ ap (unpacked 5) (text_of bs (eqb-true (length bs) 5 u.0)) ∙ code-again 5 bs t.0

-- a text that is one of two, with what each stands for
one_of : {A : Type 0} (bs xs ys : List ℕ) (a b c : A) (s : Bool) (P : A → List ℕ → Type 0) → P a xs → P b ys → cond (bytes_eq bs xs) (Some a) (cond (s && bytes_eq bs ys) (Some b) None) ≡ Some c → P c bs
one_of {A} bs xs ys a b c s P p q = go (bytes_eq bs xs) (s && bytes_eq bs ys) refl refl
  where
    go : (t u : Bool) → bytes_eq bs xs ≡ t → (s && bytes_eq bs ys) ≡ u → cond t (Some a) (cond u (Some b) None) ≡ Some c → P c bs
    go true u e f h = subst (λ x. P x bs) (same_Some a c h) (subst (P a) (sym ((bytes_eq-Decides bs xs).0 e)) p)
    go false true e f h = subst (λ x. P x bs) (same_Some b c h) (subst (P b) (sym ((bytes_eq-Decides bs ys).0 (and_parts s (bytes_eq bs ys) f).1)) q)
    go false false e f h = grind arith

pub side-again : (r : Rules) (bs : List ℕ) (n : ℕ) → side_in r bs ≡ Some n → unpacked 1 n ≡ bs
side-again r bs n h = one_of bs (codes "B") (codes "S") 66 83 n r.sells (λ k xs. unpacked 1 k ≡ xs) refl refl h

pub kind-again : (bs : List ℕ) (k : Kind) → kind_in bs ≡ Some k → digits 1 (kind_number k) ≡ bs
kind-again bs k h = one_of bs (codes "0") (codes "2") BoardLot OddLot k true (λ j xs. digits 1 (kind_number j) ≡ xs) refl refl h

pub account-again : (bs : List ℕ) (n : ℕ) → account_of bs ≡ Some n → digits 7 n ≡ bs
account-again bs n h = go (eqb (length bs) 7) refl h
  where
    go : (t : Bool) → eqb (length bs) 7 ≡ t → cond t (number_in bs) None ≡ Some n → digits 7 n ≡ bs
    go true e s = ap (λ k. digits k n) (sym (eqb-true (length bs) 7 e)) ∙ digits-number bs n s
    go false e s = grind arith

-- a digit by itself
digit-again : (bs : List ℕ) → length bs ≡ 1 → 48 ≤ get_or bs 0 0 → get_or bs 0 0 ≤ 54 → digits 1 (get_or bs 0 0 - 48) ≡ bs
digit-again [] e l h = absurd (omega arith)
digit-again (b ∷ []) e l h = let d : 48 + (b - 48) / 10 ^ 0 % 10 ≡ b = omega arith in ap (λ x. x ∷ []) d
digit-again (b ∷ c ∷ bs) e l h = absurd (omega arith)

pub type-again : (bs : List ℕ) (n : ℕ) → type_of bs ≡ Some n → digits 1 n ≡ bs
type-again bs n h =
    let b = get_or bs 0 0 in
    let t = cond_some (eqb (length bs) 1 && (leb 48 b && leb b 54)) (b - 48) n h in
    let u = and_parts (eqb (length bs) 1) (leb 48 b && leb b 54) t.0 in
    let v = and_parts (leb 48 b) (leb b 54) u.1 in
    ap (digits 1) (sym t.1) ∙ digit-again bs (eqb-true (length bs) 1 u.0) (leb-true 48 b v.0) (leb-true b 54 v.1)
