-- Going through the rows of a ledger once. Assumes nothing.
use Rattle.std.proofs.Common.{◌≡◌, refl, true, false, cond, ℕ, ◌+◌, ◌*◌, ◌^◌, ◌<◌, ◌≤◌, Bool, List, [], ◌∷◌, length, get_or, drop, Some, None, sym, ap, ◌∙◌, ⊎_elim, arith}
use Rattle.std.specs.List.{slice_get}
use Rattle.std.proofs.lemmas.Bool.{cases_lt}
use Rattle.std.proofs.lemmas.List.{drop_more, drop_all}
use Rattle.std.proofs.lemmas.Option.{slice_get-get_or, slice_get_within, get_or_from_slice_get}
use Rattle.ledger.specs.declared.row.Entry.{Entry}
use Rattle.ledger.specs.declared.row.Held.{Held}
use Rattle.std.proofs.lemmas.List.Sums.{sum_by-cons}
use Rattle.ledger.specs.Rows.{quantity_of, worth_of, held_with}

none-past : (rows : List Entry) (i : ℕ) → slice_get rows i ≡ None → length rows ≤ i
none-past [] i is = omega arith
none-past (e ∷ rows) i is =
    ⊎_elim (λ h. let s : Some (get_or (e ∷ rows) i e) ≡ None = sym (slice_get-get_or (e ∷ rows) i e h) ∙ is in let y : ◌≡◌ {A = ℕ} 0 1 = cc in absurd (omega arith)) (λ h. h) (cases_lt i (length (e ∷ rows)))

-- a row that is read is the first of those from its place on, and where none is read none is left
pub step-comes : (rows : List Entry) (i : ℕ) (e : Entry) → slice_get rows i ≡ Some e → drop i rows ≡ e ∷ drop (i + 1) rows
step-comes rows i e is =
    let within : i < length rows = slice_get_within rows i e is in
    drop_more rows i e within ∙ ap (λ x. x ∷ drop (i + 1) rows) (get_or_from_slice_get rows i e e is)

pub step-ends : (rows : List Entry) (i : ℕ) → slice_get rows i ≡ None → drop i rows ≡ []
step-ends rows i is = drop_all i rows (none-past rows i is)

-- what was held of the rows, with what the rows that are left hold, is all; and it is little enough
pub record SoFar (p : Entry → Bool) (rows left : List Entry) (h : Held) : Type 0 where
  pub quantity : h.quantity + quantity_of p left ≡ quantity_of p rows
  pub amount : h.amount + worth_of p left ≡ worth_of p rows
  pub little : h.quantity + length left * 2 ^ 32 ≤ length rows * 2 ^ 32
  pub small : h.amount + length left * 2 ^ 64 ≤ length rows * 2 ^ 64

-- a row more
pub goes_on : (p : Entry → Bool) (rows left : List Entry) (h k : Held) (e : Entry) → SoFar p rows (e ∷ left) h → k ≡ cond (p e) (held_with h e) h →
    (k.quantity < h.quantity + 2 ^ 32) × (k.amount < h.amount + 2 ^ 64) → SoFar p rows left k
goes_on p rows left h k e s is small =
    let q : k.quantity ≡ h.quantity + cond (p e) e.quantity 0 = ap (λ x. x.quantity) is ∙ added-quantity (p e) h e in
    let m : k.amount ≡ h.amount + cond (p e) (e.quantity * e.price) 0 = ap (λ x. x.amount) is ∙ added-amount (p e) h e in
    record {
      quantity = omega (arith, s.quantity, q, sum_by-cons (λ x. cond (p x) x.quantity 0) e left);
      amount = omega (arith, s.amount, m, sum_by-cons (λ x. cond (p x) (x.quantity * x.price) 0) e left);
      little = omega (arith, s.little, small.0);
      small = omega (arith, s.small, small.1);
    }
  where
    added-quantity : (b : Bool) (h : Held) (e : Entry) → (cond b (held_with h e) h).quantity ≡ h.quantity + cond b e.quantity 0
    added-quantity true h e = refl
    added-quantity false h e = omega arith

    added-amount : (b : Bool) (h : Held) (e : Entry) → (cond b (held_with h e) h).amount ≡ h.amount + cond b (e.quantity * e.price) 0
    added-amount true h e = refl
    added-amount false h e = omega arith
