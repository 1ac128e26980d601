-- The two runs of a filing are exact, and no other two are. Assumes nothing.
--
-- Every exact split has an amount of s * (q * p + m), with m of the q units at p + 1 and the others at p.
use Rattle.std.proofs.Common.{◌≡◌, ℕ, ◌+◌, ◌-◌, ◌*◌, ◌/◌, ◌%◌, ◌<◌, true, ltb, sym, refl, ap, ◌∙◌, subst, ⊎_elim, add-zero, mod-lt, mul_assoc, mul_comm, add-mul, mul-add, arith}
use native.Mathlib.Nat.{div-add-mod, mul-div_right, mul-mod_right}
use lib.Arith.{digits_div, digits_mod}
use Rattle.std.proofs.lemmas.Bool.{cases_eq, cases_Bool, lt-ltb, eq-eqb, ne_eqb, cond-true, cond-false, and_from, and_parts, ltb-true, eqb-true}
use Rattle.lots.specs.Split.{Run, quantity, price, run_worth, no_run, Exact, Splits, Law, run, splits, runs}

-- shares times price, with the shares of a unit in front
unit-out : (n s p : ℕ) → n * s * p ≡ s * (n * p)
unit-out n s p = ap (λ x. x * p) (mul_comm n s) ∙ mul_assoc s n p

-- n units at p and m at p + 1, all of s shares
both-worth : (s n m p : ℕ) → n * s * p + m * s * (p + 1) ≡ s * ((n + m) * p + m)
both-worth s n m p =
    let inner : n * p + m * (p + 1) ≡ (n + m) * p + m = omega (arith, add-mul n m p, mul-add m p 1) in
    omega (arith, unit-out n s p, unit-out m s (p + 1), mul-add s (n * p) (m * (p + 1)), ap (λ x. s * x) inner)

run-some : (n p : ℕ) → 0 < n → run n p ≡ (n, record { count = p })
run-some n p h = cond-false _ _ _ (ne_eqb n 0 (λ e. omega arith))

run_none : (n p : ℕ) → n ≡ 0 → run n p ≡ no_run
run_none n p e = cond-true _ _ _ (eq-eqb n 0 e)

splits-true : (q s amount : ℕ) → Splits q s amount → splits q s amount ≡ true
splits-true q s amount h = and_from _ _ (lt-ltb 0 q h.0) (and_from _ _ (lt-ltb 0 s h.1) (eq-eqb (amount % s) 0 h.2))

splits-from : (q s amount : ℕ) → splits q s amount ≡ true → Splits q s amount
splits-from q s amount e =
    let a = and_parts (ltb 0 q) _ e in
    let b = and_parts (ltb 0 s) _ a.1 in
    (ltb-true 0 q a.0, ltb-true 0 s b.0, eqb-true (amount % s) 0 b.1)

-- m of q units at p + 1, the others at p
abbrev at-prices : ℕ → ℕ → ℕ → Run × Run
at-prices q p m = (run (q - m) p, run m (p + 1))

at-even : (q p m : ℕ) → 0 < q → m ≡ 0 → at-prices q p m ≡ ((q, record { count = p }), no_run)
at-even q p m some e =
    let whole : q - m ≡ q = omega arith in
    (λ i. (run (whole i) p, run m (p + 1))) ∙ (λ i. (run-some q p some i, run_none m (p + 1) e i))

at_both : (q p m : ℕ) → m < q → 0 < m → at-prices q p m ≡ ((q - m, record { count = p }), (m, record { count = p + 1 }))
at_both q p m less some = λ i. (run-some (q - m) p (omega arith) i, run-some m (p + 1) some i)

exact-even : (q s p : ℕ) → 0 < q → Exact q s (s * (q * p + 0)) ((q, record { count = p }), no_run)
exact-even q s p some = record {
  quantities = omega arith;
  amounts = omega (arith, unit-out q s p, ap (λ x. s * x) (add-zero (q * p)));
  first = some;
  cent = λ h. absurd (omega arith);
  empty = λ _. refl;
}

exact-both : (q s p m : ℕ) → m < q → 0 < m → Exact q s (s * (q * p + m)) ((q - m, record { count = p }), (m, record { count = p + 1 }))
exact-both q s p m less some =
    let whole : q - m + m ≡ q = omega arith in
    record {
      quantities = whole;
      amounts = both-worth s (q - m) m p ∙ ap (λ n. s * (n * p + m)) whole;
      first = omega arith;
      cent = λ _. refl;
      empty = λ h. absurd (omega arith);
    }

at_exact : (q s p m : ℕ) → 0 < q → m < q → Exact q s (s * (q * p + m)) (at-prices q p m)
at_exact q s p m some less =
    ⊎_elim
    (λ e. subst (λ n. Exact q s (s * (q * p + n)) (at-prices q p m)) (sym e) (subst (Exact q s (s * (q * p + 0))) (sym (at-even q p m some e)) (exact-even q s p some)))
    (λ ne. let more : 0 < m = omega arith in subst (Exact q s (s * (q * p + m))) (sym (at_both q p m less more)) (exact-both q s p m less more))
    (cases_eq m 0)

-- the rule, at such an amount
at-rule : (q s p m : ℕ) → 0 < q → 0 < s → m < q → runs q s (s * (q * p + m)) ≡ at-prices q p m
at-rule q s p m some unit less =
    let each : s * (q * p + m) / s ≡ p * q + m = mul-div_right (q * p + m) unit ∙ ap (λ x. x + m) (mul_comm q p) in
    let rest : s * (q * p + m) / s % q ≡ m = ap (λ x. x % q) each ∙ digits_mod p less in
    let low : s * (q * p + m) / s / q ≡ p = ap (λ x. x / q) each ∙ digits_div p less in
    cond-true _ _ _ (splits-true q s _ (some, unit, mul-mod_right s (q * p + m))) ∙ (λ i. at-prices q (low i) (rest i))

-- every filing that can be split has such an amount
as-prices : (q s amount : ℕ) → Splits q s amount → amount ≡ s * (q * (amount / s / q) + amount / s % q)
as-prices q s amount h =
    sym (ap (λ x. s * x) (div-add-mod (amount / s) q) ∙ omega (arith, div-add-mod amount s, h.2))

-- any exact runs are those at their own prices
module _ {q s amount : ℕ} {t : Run × Run} (t-exact : Exact q s amount t) where
  less : quantity t.1 < q
  less = omega (arith, t-exact.first, t-exact.quantities)

  whole : q - quantity t.1 ≡ quantity t.0
  whole = omega (arith, t-exact.quantities)

  own-even : quantity t.1 ≡ 0 → (t ≡ at-prices q (price t.0) (quantity t.1)) × (amount ≡ s * (q * price t.0 + quantity t.1))
  own-even e =
      let all : quantity t.0 ≡ q = omega (arith, t-exact.quantities) in
      let nothing : t.1 ≡ no_run = t-exact.empty e in
      let low : run_worth s t.0 ≡ s * (q * price t.0) = ap (λ n. n * s * price t.0) all ∙ unit-out q s (price t.0) in
      let high : run_worth s t.1 ≡ 0 = ap (run_worth s) nothing ∙ omega arith in (
        (λ i. ((all i, t.0.1), nothing i)) ∙ sym (at-even q (price t.0) (quantity t.1) (omega (arith, t-exact.first)) e),
        omega (arith, t-exact.amounts, mul-add s (q * price t.0) (quantity t.1), ap (λ n. s * n) e),
      )

  own-both : 0 < quantity t.1 → (t ≡ at-prices q (price t.0) (quantity t.1)) × (amount ≡ s * (q * price t.0 + quantity t.1))
  own-both more =
      let up : price t.1 ≡ price t.0 + 1 = t-exact.cent more in (
        (λ i. ((sym whole i, t.0.1), (quantity t.1, record { count = up i }))) ∙ sym (at_both q (price t.0) (quantity t.1) less more),
        sym t-exact.amounts ∙ ap (λ x. run_worth s t.0 + quantity t.1 * s * x) up ∙ both-worth s (quantity t.0) (quantity t.1) (price t.0) ∙ ap (λ n. s * (n * price t.0 + quantity t.1)) t-exact.quantities,
      )

  own : (t ≡ at-prices q (price t.0) (quantity t.1)) × (amount ≡ s * (q * price t.0 + quantity t.1))
  own = ⊎_elim own-even (λ ne. own-both (omega arith)) (cases_eq (quantity t.1) 0)

  own-rule : 0 < s → t ≡ runs q s amount
  own-rule unit =
      own.0 ∙ sym (at-rule q s (price t.0) (quantity t.1) (omega (arith, less)) unit less) ∙ ap (runs q s) (sym own.1)

pub lawful : (q s amount : ℕ) → Law q s amount (runs q s amount)
lawful q s amount = record {
  exact = λ h.
      let p : ℕ = amount / s / q in
      let m : ℕ = amount / s % q in
      let less : m < q = mod-lt (amount / s) h.0 in
      let e : amount ≡ s * (q * p + m) = as-prices q s amount h in
      subst (λ x. Exact q s x (runs q s x)) (sym e) (subst (Exact q s _) (sym (at-rule q s p m h.0 h.1 less)) (at_exact q s p m h.0 less));
  only = λ unit t exact. own-rule exact unit;
  none = λ no. ⊎_elim (λ yes. absurd (no (splits-from q s amount yes))) (λ not. cond-false _ _ _ not) (cases_Bool (splits q s amount));
}

pub lawful_at : (q s amount : ℕ) (r : Run × Run) → r ≡ runs q s amount → Law q s amount r
lawful_at q s amount r e = subst (Law q s amount) (sym e) (lawful q s amount)
