-- One entry more at the end of a ledger that has room for it.
use Rattle.std.proofs.Common.{◌≡◌, ℕ, ◌+◌, ◌<◌, ◌≤◌, Bool, cond, ltb, List, [], ◌∷◌, ◌++◌, length, get_or, drop, sym, ap, ◌∙◌, arith, length-append}
use Rattle.std.proofs.lemmas.List.{drop_more, append_assoc}
use Rattle.std.proofs.lemmas.Bool.{lt-ltb}
use Rattle.ledger.specs.Rows.{appended}
use Rattle.ledger.specs.declared.row.Entry.{Entry}

pub one_more : (rows more entries : List Entry) (i : ℕ) (d : Entry) (r : Bool) (room : ℕ) → i < length entries → r ≡ ltb (length rows) room → more ≡ appended r rows (get_or entries i d) → length rows + length (drop i entries) ≤ room →
    (more ++ drop (i + 1) entries ≡ rows ++ drop i entries) × (length more + length (drop (i + 1) entries) ≤ room)
one_more rows more entries i d r room h answer list fits =
    let e = get_or entries i d in
    let next = drop_more entries i d h in
    let k = ap length next in
    let lt : length rows < room = omega (arith, fits, k) in
    let taken : more ≡ rows ++ e ∷ [] = list ∙ ap (λ b. cond b (rows ++ e ∷ []) rows) (answer ∙ lt-ltb (length rows) room lt) in (
      ap (λ x. x ++ drop (i + 1) entries) taken ∙ append_assoc rows (e ∷ []) (drop (i + 1) entries) ∙ ap (λ x. rows ++ x) (sym next),
      omega (arith, fits, k, ap length taken, length-append rows (e ∷ [])),
    )
