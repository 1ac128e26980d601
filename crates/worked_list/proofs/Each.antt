-- The figures hold: both columns of the list are computed at once, and equal columns agree at each figure.
use Rattle.std.specs.Prelude.{All, ◌≡◌, List, [], ◌∷◌, map, refl}
use Rattle.std.proofs.lemmas.List.Elements.{All-nil, All-cons}
use Rattle.worked_list.specs.Answers.{answer_to, Holds}
use Rattle.worked_list.specs.Figures.{figures}

pub each : {A B : Type 0} (f g : A → B) (xs : List A) → map f xs ≡ map g xs → All (λ x. f x ≡ g x) xs
each f g [] e = All-nil (λ x. f x ≡ g x)
each f g (x ∷ xs) e = All-cons (λ y. f y ≡ g y) x xs (cc) (each f g xs (cc))

pub columns : map (λ f. answer_to f.question) figures ≡ map (λ f. f.answer) figures
columns = refl

pub figures_hold : All Holds figures
figures_hold = each (λ f. answer_to f.question) (λ f. f.answer) figures columns
