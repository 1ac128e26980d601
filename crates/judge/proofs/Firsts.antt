-- The first ground of lists one behind another, and lists of which no ground applies.
use Rattle.std.proofs.Common.{◌≡◌, Bool, true, false, cond, not, List, [], ◌∷◌, ◌++◌, Some, None, Ok, Err, Option, Result, refl, sym, ap, ◌∙◌}
use Rattle.std.specs.Result.{result_err, IsErrAnd}
use Rattle.std.specs.List.{AllByRecursion}
use Rattle.judge.specs.Grounds.{first_of}
use Rattle.judge.specs.declared.grounds.Ground.{Ground}

-- where none applies, no test holds
pub none_all : (gs : List (Ground × Bool)) → first_of gs ≡ None → AllByRecursion (λ g. g.1 ≡ false) gs
none_all [] h = tt
none_all ((g, true) ∷ gs) h = cc
none_all ((g, false) ∷ gs) h = (refl, none_all gs h)

pub first_of-append : (xs ys : List (Ground × Bool)) → first_of (xs ++ ys) ≡ elim (first_of xs) [ Some g ↦ Some g | None ↦ first_of ys ]
first_of-append [] ys = refl
first_of-append ((g, true) ∷ xs) ys = refl
first_of-append ((g, false) ∷ xs) ys = first_of-append xs ys

pub none-append : (xs ys : List (Ground × Bool)) → first_of (xs ++ ys) ≡ None → (first_of xs ≡ None) × (first_of ys ≡ None)
none-append [] ys h = (refl, h)
none-append ((g, true) ∷ xs) ys h = (h, cc)
none-append ((g, false) ∷ xs) ys h = none-append xs ys h

-- in the first of two lists, or in the second where none of the first applies
pub here : (xs ys : List (Ground × Bool)) {g : Ground} → Some g ≡ first_of xs → Some g ≡ first_of (xs ++ ys)
here xs ys h = sym (first_of-append xs ys ∙ ap (λ o. elim o [ Some g ↦ Some g | None ↦ first_of ys ]) (sym h))

pub later : (xs ys : List (Ground × Bool)) {x : Option Ground} → None ≡ first_of xs → x ≡ first_of ys → x ≡ first_of (xs ++ ys)
later xs ys h k = k ∙ sym (first_of-append xs ys ∙ ap (λ o. elim o [ Some g ↦ Some g | None ↦ first_of ys ]) (sym h))

-- what `?` hands on is the refusal that it met
pub handed : {A : Type 0} (r : Result A Ground) (g : Ground) → IsErrAnd r (λ e. e ≡ g) → result_err r ≡ Some g
handed (Ok x) g h = absurd h
handed (Err e) g h = ap (λ x. Some x) h

-- a test that a ground's list denies
pub unless_err : (t : Bool) (g k : Ground) (gs : List (Ground × Bool)) → Some k ≡ cond t None (Some g) → Some k ≡ first_of ((g, not t) ∷ gs)
unless_err true g k gs h = cc
unless_err false g k gs h = h

pub unless_ok : (t : Bool) (g : Ground) (gs : List (Ground × Bool)) (x : Option Ground) → None ≡ cond t None (Some g) → x ≡ first_of gs → x ≡ first_of ((g, not t) ∷ gs)
unless_ok true g gs x h k = k
unless_ok false g gs x h k = cc

pub unless : (t : Bool) (g : Ground) → cond t None (Some g) ≡ first_of ((g, not t) ∷ [])
unless true g = refl
unless false g = refl
