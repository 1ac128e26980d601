-- What is left of a list that a test is struck from, and when a deletion finds no row.
use Rattle.std.proofs.Common.{◌≡◌, ℕ, ◌-◌, ◌<◌, ◌≤◌, Bool, true, false, cond, not, ◌||◌, nat_eq, List, [], ◌∷◌, length, filter, Some, None, Ok, Err, Result, refl, ap, arith, ◌∙◌}
use Rattle.std.proofs.lemmas.Bool.Decides.{nat_tests}
use Rattle.std.specs.Result.{IsErrAnd}
use Rattle.groups.specs.Groups.{some}
use Rattle.judge.specs.declared.grounds.Ground.{Ground}
use Rattle.book.specs.Book.{Book, Outcome, CameTo}
use Rattle.judge.specs.declared.heading.Target.{Target}
use Rattle.book.specs.Lines.{of_target, struck}

module _ {X : Type 0} (test : X → Bool) where
  abbrev pub left : List X → List X
  left xs = filter (λ x. not (test x)) xs

  shorter : (b : Bool) (x : X) (xs : List X) → length (left xs) ≤ length xs → length (cond (not b) (x ∷ left xs) (left xs)) ≤ length (x ∷ xs)
  shorter true x xs h = omega arith
  shorter false x xs h = omega arith

  pub left-le : (xs : List X) → length (left xs) ≤ length xs
  left-le [] = omega arith
  left-le (x ∷ xs) = shorter (test x) x xs (left-le xs)

  -- nothing goes where the test finds nothing, and else some of it
  same : (b : Bool) (x : X) (xs : List X) → (b || some test xs) ≡ false → (some test xs ≡ false → left xs ≡ xs) → cond (not b) (x ∷ left xs) (left xs) ≡ x ∷ xs
  same true x xs h k = cc
  same false x xs h k = ap (λ l. x ∷ l) (k h)

  pub left-all : (xs : List X) → some test xs ≡ false → left xs ≡ xs
  left-all [] h = refl
  left-all (x ∷ xs) h = same (test x) x xs h (left-all xs)

  fewer : (b : Bool) (x : X) (xs : List X) → (b || some test xs) ≡ true → (some test xs ≡ true → length (left xs) < length xs) → length (cond (not b) (x ∷ left xs) (left xs)) < length (x ∷ xs)
  fewer true x xs h k = omega (arith, left-le xs)
  fewer false x xs h k = omega (arith, k h)

  pub left-some : (xs : List X) → some test xs ≡ true → length (left xs) < length xs
  left-some [] h = cc
  left-some (x ∷ xs) h = fewer (test x) x xs h (left-some xs)

  nought : (n : ℕ) → n ≡ 0 → not (nat_eq n 0) ≡ false
  nought n h = grind (arith, nat_tests)

  more : (n : ℕ) → 0 < n → not (nat_eq n 0) ≡ true
  more n h = grind (arith, nat_tests)

  -- some of it went exactly where the test finds something
  went : (xs : List X) (n : ℕ) → n ≡ length xs - length (left xs) → not (nat_eq n 0) ≡ some test xs
  went xs n e = go (some test xs) refl
    where
      go : (t : Bool) → some test xs ≡ t → not (nat_eq n 0) ≡ t
      go true h = more n (omega (arith, e, left-some xs h))
      go false h = nought n (omega (arith, e, ap length (left-all xs h)))

-- what comes of a deletion
module _ (b : Book) (t : Target) where
  -- some went from a day exactly where there was a row
  pub some-went : {v : Book} (n : ℕ) → n ≡ length b.rows - length v.rows → v ≡ struck b t → not (nat_eq n 0) ≡ some (of_target t) b.rows
  some-went n e h = went (of_target t) b.rows n (e ∙ ap (λ v. length b.rows - length v.rows) h)

  -- nothing changes where there was no row
  pub struck-none : some (of_target t) b.rows ≡ false → struck b t ≡ b
  struck-none k = λ j. record b { rows = left-all (of_target t) b.rows k j }

-- where a test refuses, it did not hold
pub denied : (t : Bool) (g k : Ground) → Some k ≡ cond t None (Some g) → t ≡ false
denied true g k h = cc
denied false g k h = refl

pub came-refused : (r : Result ℕ Ground) (g : Ground) (o : Outcome) (before after : Book) (buffer : List ℕ) → IsErrAnd r (λ e. e ≡ g) → after ≡ before → CameTo r o before after buffer buffer
came-refused (Ok n) g o before after buffer h e = absurd h
came-refused (Err x) g o before after buffer h e = (e, refl)
