-- Looking through the rows of a ledger by their numbers. Assumes nothing.
use Rattle.std.proofs.Common.{◌≡◌, ℕ, ◌+◌, ◌<◌, true, false, ◌||◌, List, [], ◌∷◌, length, get_or, drop, Some, None, sym, ap, ◌∙◌, ⊎_elim, arith}
use Rattle.std.specs.List.{slice_get}
use Rattle.std.proofs.lemmas.List.{drop_more}
use Rattle.std.proofs.lemmas.Option.{slice_get-get_or, slice_get_past}
use Rattle.std.proofs.lemmas.Bool.{cases_lt}
use Rattle.ledger.specs.declared.row.Entry.{Entry}
use Rattle.ledger.specs.declared.row.OrderNumber.{OrderNumber}
use Rattle.ledger.specs.Rows.{of_order, has_order}

module _ (rows : List Entry) (i : ℕ) (e : Entry) (here : slice_get rows i ≡ Some e) where
  inside : i < length rows
  inside =
      ⊎_elim (λ h. h) (λ h. let z : Some e ≡ None = sym here ∙ slice_get_past rows i h in let y : ◌≡◌ {A = ℕ} 0 1 = cc in absurd (omega arith)) (cases_lt i (length rows))

  there : get_or rows i e ≡ e
  there = let s = slice_get-get_or rows i e inside in cc

  pub drop_here : drop i rows ≡ e ∷ drop (i + 1) rows
  drop_here = drop_more rows i e inside ∙ ap (λ x. x ∷ drop (i + 1) rows) there

-- an index within the rows reads something
pub reads : (rows : List Entry) (i : ℕ) → i < length rows → slice_get rows i ≡ None → ⊥
reads [] i h e = omega arith
reads (r ∷ rows) i h e =
    let s = slice_get-get_or (r ∷ rows) i r h in
    let y : ◌≡◌ {A = ℕ} 0 1 = cc in
    omega arith

pub order-found : (o : OrderNumber) (rows : List Entry) (i : ℕ) (e : Entry) → slice_get rows i ≡ Some e → of_order o e ≡ true → has_order o (drop i rows) ≡ true
order-found o rows i e here is = ap (has_order o) (drop_here rows i e here) ∙ ap (λ b. b || has_order o (drop (i + 1) rows)) is

pub order-passed : (o : OrderNumber) (rows : List Entry) (i : ℕ) (e : Entry) → slice_get rows i ≡ Some e → of_order o e ≡ false → has_order o (drop i rows) ≡ has_order o (drop (i + 1) rows)
order-passed o rows i e here not = ap (has_order o) (drop_here rows i e here) ∙ ap (λ b. b || has_order o (drop (i + 1) rows)) not
