-- The lines of a text, one after another. Assumes nothing.
use Rattle.std.proofs.Common.{◌≡◌, ℕ, ◌+◌, ◌<◌, ◌==◌, Bool, false, List, [], ◌∷◌, All, length, take, drop, position, Some, None, refl, ap, ◌∙◌, ⊎_elim, arith}
use Rattle.std.specs.List.{slice_split, position_or_len, before_first, after_first}
use Rattle.std.proofs.lemmas.Bool.{cases_lt, cond-true, lt-ltb}
use Rattle.std.proofs.lemmas.List.Elements.{All-from_get_or}
use Rattle.std.proofs.lemmas.List.Quantifiers.{position-Some}
use Rattle.std.proofs.lemmas.List.Splits.{slice_split_first, slice_split_none, length-slice_split}
use Rattle.std.proofs.lemmas.List.Sums.{position_or_len_is, fails_before_first}
use Rattle.script.specs.Lines.{newline, closed, lines_of}

closed_more : (part : List ℕ) (parts : List (List ℕ)) → 0 < length parts → closed (part ∷ parts) ≡ part ∷ closed parts
closed_more [] [] h = absurd (omega arith)
closed_more [] (q ∷ qs) h = refl
closed_more (b ∷ bs) [] h = refl
closed_more (b ∷ bs) (q ∷ qs) h = refl

-- a line that ends in a newline
pub lines-first : (text : List ℕ) (end : ℕ) → position (λ b. b == newline) text ≡ Some end → lines_of text ≡ take end text ∷ lines_of (drop (end + 1) text)
lines-first text end e =
    let f = position-Some (λ b. b == newline) text end 0 e in
    let at : position_or_len (λ b. b == newline) text ≡ end = position_or_len_is (λ b. b == newline) text end 0 (omega (arith, f.0)) f.2 (λ _. f.1) in
    let parts : slice_split (λ b. b == newline) text ≡ before_first (λ b. b == newline) text ∷ slice_split (λ b. b == newline) (after_first (λ b. b == newline) text) = slice_split_first (λ b. b == newline) text 0 (omega (arith, f.0)) in
    ap closed parts ∙
    closed_more _ _ (omega (arith, length-slice_split (λ b. b == newline) (after_first (λ b. b == newline) text))) ∙
    ap (λ i. take i text ∷ lines_of (drop (i + 1) text)) at

no_newline : (p : ℕ → Bool) (xs : List ℕ) → position p xs ≡ None → All (λ x. p x ≡ false) xs
no_newline p xs e =
    ⊎_elim
    (λ h. absurd (let some : position p xs ≡ Some (position_or_len p xs) = cond-true _ _ _ (lt-ltb _ _ h) in let z : ◌≡◌ {A = ℕ} 0 1 = cc in omega arith))
    (λ h. All-from_get_or (λ x. p x ≡ false) xs 0 (λ i l. fails_before_first p xs i 0 (omega arith)))
    (cases_lt (position_or_len p xs) (length xs))

-- the last line, where no newline ends it
pub lines-last : (text : List ℕ) → 0 < length text → position (λ b. b == newline) text ≡ None → lines_of text ≡ text ∷ []
lines-last [] h e = absurd (omega arith)
lines-last (b ∷ bs) h e = ap closed (slice_split_none (λ b. b == newline) (b ∷ bs) (no_newline (λ b. b == newline) (b ∷ bs) e))
