-- What totals come to with one total more.
use Rattle.std.proofs.Common.{◌≡◌, ℕ, ◌+◌, ◌≤◌, Bool, true, false, cond, eqb, ltb, List, [], ◌∷◌, ◌++◌, sum_by, refl, subst, arith}
use Rattle.std.proofs.lemmas.List.Sums.{sum_by_push}
use Rattle.std.proofs.lemmas.Bool.{ltb-false, eqb-true, or_parts}
use Rattle.groups.specs.Limits.{most_shares, most_cents}
use Rattle.groups.specs.Sums.{comes_over}
use Rattle.groups.specs.declared.kept.Total.{Total}
use Rattle.groups.specs.declared.kept.Traded.{Traded}

-- A weight of totals, counted for a group: with one total more no group's sum passes what that total's own group does not.
module _ (weight : Total → ℕ) (most : ℕ) where
  abbrev for : ℕ → Total → ℕ
  for n t = cond (eqb t.group n) (weight t) 0

  by-group : (ts : List Total) (t : Total) (n : ℕ) (same : Bool) → eqb t.group n ≡ same → sum_by (for n) ts ≤ most → sum_by (for t.group) ts + weight t ≤ most → sum_by (for n) ts + cond same (weight t) 0 ≤ most
  by-group ts t n true e h o = subst (λ k. sum_by (for k) ts + weight t ≤ most) (eqb-true t.group n e) o
  by-group ts t n false e h o = omega (arith, h)

  pub fits_more : (ts : List Total) (t : Total) → ((n : ℕ) → sum_by (for n) ts ≤ most) → sum_by (for t.group) ts + weight t ≤ most → (n : ℕ) → sum_by (for n) (ts ++ t ∷ []) ≤ most
  fits_more ts t h o n =
      let p = sum_by_push (for n) ts t in
      let b = by-group ts t n (eqb t.group n) refl (h n) o in
      omega (arith, p, b)

-- not over: both sums stay within their limits
pub not-over : (r : Traded) (x y : ℕ) → comes_over r x y ≡ false → (r.shares.count + x ≤ most_shares) × (r.amount.count + y ≤ most_cents)
not-over r x y e =
    let p = or_parts (ltb most_shares (r.shares.count + x)) (ltb most_cents (r.amount.count + y)) e in
    (ltb-false most_shares (r.shares.count + x) p.0, ltb-false most_cents (r.amount.count + y) p.1)
