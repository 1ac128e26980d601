-- The pieces of a run: together they come out to the run. Assumes nothing.
use Rattle.std.proofs.Common.{◌≡◌, ℕ, zero, suc, ◌+◌, ◌-◌, ◌*◌, ◌/◌, ◌%◌, ◌<◌, ◌≤◌, Bool, true, false, List, [], ◌∷◌, ◌++◌, length, replicate, sym, refl, ap, subst, ⊎_elim, suc-mul, add-mul, arith, length-append}
use lib.ListN.{length-replicate}
use Rattle.std.proofs.lemmas.List.Elements.{All-nil, All-cons}
use Rattle.std.proofs.lemmas.List.Sums.{sum_by-cons}
use Rattle.std.proofs.lemmas.Bool.{cases_eq, eq-eqb, ne_eqb, cond-true, cond-false, false≢true}
use Rattle.lots.specs.declared.cut.Piece.{Piece}
use Rattle.lots.specs.declared.units.Cents.{Cents}
use Rattle.lots.specs.Split.{Run}
use Rattle.lots.specs.Pieces.{largest, Whole, Pieced, whole, cut_up, pieces_in, pieces_of}

abbrev piece : ℕ → Cents → Piece
piece q x = record { quantity = q; price = x }

whole-some : (q : ℕ) (x : Cents) → 0 < q → whole (q, x) ≡ piece q x ∷ []
whole-some q x h = cond-false _ _ _ (ne_eqb q 0 (λ e. omega arith))

whole-none : (q : ℕ) (x : Cents) → q ≡ 0 → whole (q, x) ≡ []
whole-none q x e = cond-true _ _ _ (eq-eqb q 0 e)

-- what they come out to

none-law : (cut : Bool) (x : Cents) → Whole cut (0, x) []
none-law cut x = record {
  some = All-nil (λ p. 0 < p.quantity);
  small = λ _. All-nil (λ p. p.quantity ≤ largest);
  prices = All-nil (λ p. p.price ≡ x);
  quantities = refl;
  amounts = λ s. omega arith;
}

one_more : (cut : Bool) (k m : ℕ) (x : Cents) (ps : List Piece) → 0 < k → (cut ≡ true → k ≤ largest) → Whole cut (m, x) ps → Whole cut (k + m, x) (piece k x ∷ ps)
one_more cut k m x ps h fits w = record {
  some = All-cons (λ p. 0 < p.quantity) (piece k x) ps h w.some;
  small = λ c. All-cons (λ p. p.quantity ≤ largest) (piece k x) ps (fits c) (w.small c);
  prices = All-cons (λ p. p.price ≡ x) (piece k x) ps refl w.prices;
  quantities = omega (arith, sum_by-cons (λ p. p.quantity) (piece k x) ps, w.quantities);
  amounts = λ s. omega (arith, sum_by-cons (λ p. p.quantity * s * p.price.count) (piece k x) ps, w.amounts s, ap (λ n. n * x.count) (add-mul k m s), add-mul (k * s) (m * s) x.count);
}

whole-law : (cut : Bool) (q : ℕ) (x : Cents) → (cut ≡ true → q ≤ largest) → Whole cut (q, x) (whole (q, x))
whole-law cut q x fits =
    ⊎_elim
    (λ e. subst (λ n. Whole cut (n, x) (whole (q, x))) (sym e) (subst (Whole cut (0, x)) (sym (whole-none q x e)) (none-law cut x)))
    (λ ne.
    let h : 0 < q = omega arith in
    let all : q + 0 ≡ q = omega arith in
    subst (Whole cut (q, x)) (sym (whole-some q x h)) (subst (λ n. Whole cut (n, x) (piece q x ∷ [])) all (one_more cut q 0 x [] h fits (none-law cut x))))
    (cases_eq q 0)

many-law : (n m : ℕ) (x : Cents) (ps : List Piece) → Whole true (m, x) ps → Whole true (n * largest + m, x) (replicate n (piece largest x) ++ ps)
many-law zero m x ps w = subst (λ k. Whole true (k, x) ps) (omega arith) w
many-law (suc n) m x ps w =
    let more : largest + (n * largest + m) ≡ suc n * largest + m = omega (arith, suc-mul n largest) in
    subst (λ k. Whole true (k, x) (piece largest x ∷ (replicate n (piece largest x) ++ ps))) more
    (one_more true largest (n * largest + m) x _ (omega arith) (λ _. omega arith) (many-law n m x ps w))

run-law : (cut : Bool) (q : ℕ) (x : Cents) → Whole cut (q, x) (pieces_in cut (q, x))
run-law false q x = whole-law false q x (λ e. absurd (false≢true e))
run-law true q x =
    let rest : q % largest ≤ largest = omega arith in
    let all : q / largest * largest + q % largest ≡ q = omega arith in
    subst (λ n. Whole true (n, x) (cut_up (q, x))) all (many-law (q / largest) (q % largest) x (whole (q % largest, x)) (whole-law true (q % largest) x (λ _. rest)))

whole-short : (q : ℕ) (x : Cents) → length (whole (q, x)) ≤ 1
whole-short q x =
    ⊎_elim (λ e. omega (arith, ap length (whole-none q x e))) (λ ne. omega (arith, ap length (whole-some q x (omega arith)))) (cases_eq q 0)

run_short : (cut : Bool) (q : ℕ) (x : Cents) → length (pieces_in cut (q, x)) ≤ q / largest + 1
run_short false q x = omega (arith, whole-short q x)
run_short true q x =
    omega (arith, length-append (replicate (q / largest) (piece largest x)) (whole (q % largest, x)), length-replicate (q / largest) (piece largest x), whole-short (q % largest) x)

pub pieces-law : (cut : Bool) (r : Run × Run) → Pieced cut r (pieces_of cut r)
pieces-law cut r = record {
  front = pieces_in cut r.0;
  back = pieces_in cut r.1;
  order = refl;
  first = run-law cut r.0.0 r.0.1;
  second = run-law cut r.1.0 r.1.1;
  few = λ h.
      let all = length-append (pieces_in cut r.0) (pieces_in cut r.1) in
      let a = run_short cut r.0.0 r.0.1 in
      let b = run_short cut r.1.0 r.1.1 in
      omega arith;
}
