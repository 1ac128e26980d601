-- Numbers that do not fit. Assumes nothing.
use Rattle.std.proofs.Common.{◌≡◌, ℕ, ◌+◌, ◌-◌, ◌*◌, ◌^◌, ◌<◌, ◌≤◌, true, false, cond, List, [], ◌∷◌, Some, None, refl, ⊎_elim, arith}
use Rattle.std.proofs.lemmas.Bool.{cases_lt, cond-true, cond-false, lt-ltb, le-ltb}
use Rattle.octets.specs.Digits.{is_digit, number_after}
use Rattle.octets.specs.Options.{and_then}
use Rattle.script.specs.Words.{fitting}

pub fits : (n : ℕ) → n < 2 ^ 64 → fitting n ≡ Some n
fits n h = cond-true _ _ _ (lt-ltb n (2 ^ 64) h)

pub fits_not : (n : ℕ) → 2 ^ 64 ≤ n → fitting n ≡ None
fits_not n h = cond-false _ _ _ (le-ltb n (2 ^ 64) h)

pub none-fits : (n : ℕ) → fitting n ≡ None → 2 ^ 64 ≤ n
none-fits n e =
    ⊎_elim
    (λ h. absurd (let some = fits n h in let z : ◌≡◌ {A = ℕ} 0 1 = cc in omega arith))
    (λ h. h)
    (cases_lt n (2 ^ 64))

-- digits more make it no smaller
pub no_less : (n : ℕ) (bs : List ℕ) → 2 ^ 64 ≤ n → and_then (number_after n bs) fitting ≡ None
no_less n [] h = fits_not n h
no_less n (b ∷ bs) h =
    elim (is_digit b) as (λ v. and_then (cond v (number_after (n * 10 + (b - 48)) bs) None) fitting ≡ None) [
      | true ↦ no_less (n * 10 + (b - 48)) bs (omega arith)
      | false ↦ refl
    ]
