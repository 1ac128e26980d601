-- Flags by number: whether one is set, and flags that a call at each number gives.
use Rattle.std.proofs.Common.{◌≡◌, ℕ, zero, suc, ◌+◌, ◌<◌, Bool, true, false, ◌||◌, List, [], ◌∷◌, length, refl, sym, ap, ◌∙◌, subst, arith}
use Rattle.std.specs.Array.{IsFromFnResultFrom}
use Rattle.std.specs.Fn.{Called}
use Rattle.std.specs.List.{list_any}
use Rattle.groups.specs.Groups.{any_below}
use Rattle.lines.specs.Taking.{flagged}
use mathlib.Core.Bool.{beq}
use denote.Param.Members.{Mut}

turned : (a b c : Bool) → (a || (b || c)) ≡ (b || (a || c))
turned true true c = refl
turned true false c = refl
turned false b c = refl

front : (x : Bool) (xs : List Bool) (n : ℕ) → any_below (flagged (x ∷ xs)) (suc n) ≡ (x || any_below (flagged xs) n)
front x xs zero = refl
front x xs (suc n) = ap (λ b. flagged xs n || b) (front x xs n) ∙ turned (flagged xs n) x (any_below (flagged xs) n)

-- a flag that is true is set
set : (x : Bool) → beq x true ≡ x
set true = refl
set false = refl

pub any-takes : (xs : List Bool) → list_any (λ x. beq x true) xs ≡ any_below (flagged xs) (length xs)
any-takes [] = refl
any-takes (x ∷ xs) = (λ i. set x i || any-takes xs i) ∙ sym (front x xs (length xs))

module _ {F : Type 0} (g : Mut F (ℕ × Unit {0}) Bool) (test : ℕ → Bool) where
  abbrev pub Answers : F → Type 0
  Answers f = (i : ℕ) (y : Bool) (q : F) → Called g f (i, tt) y q → (q ≡ f) × (y ≡ test i)

  pub each-flag : (f : F) (ys : List Bool) (i n : ℕ) → Answers f → IsFromFnResultFrom g f ys i n → (k j : ℕ) → k < n → i + k ≡ j → flagged ys j ≡ test j
  each-flag f ys i zero says e k j h s = absurd (omega (arith, h))
  each-flag f ys i (suc n) says e zero j h s =
      let here : i ≡ j = omega (arith, s) in
      subst (λ m. flagged ys m ≡ test m) here (e.2.1 false ∙ (says i e.1 e.0 e.3).1)
  each-flag f ys i (suc n) says e (suc k) j h s =
      each-flag e.0 ys (i + 1) n (subst Answers (sym (says i e.1 e.0 e.3).0) says) e.4 k j (omega (arith, h)) (omega (arith, s))
