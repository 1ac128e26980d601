-- The entries of a filing come out to its pieces.
use Rattle.std.proofs.Common.{◌≡◌, suc, List, [], ◌∷◌, ◌++◌, length, sum_by, refl, ap, subst, arith}
use Rattle.std.specs.List.{All}
use Rattle.std.proofs.lemmas.List.Elements.{All-nil, All-cons}
use Rattle.std.proofs.lemmas.List.Sums.{sum_by-cons}
use Rattle.ledger.specs.declared.row.Entry.{Entry}
use Rattle.lots.specs.Pieces.{piece_worth}
use Rattle.lots.specs.declared.cut.Piece.{Piece}
use Rattle.lines.specs.Entries.{each_of, row_worth, Runs, Says, Entered, after, entry_after, entries_from}
use Rattle.lines.specs.declared.entries.Before.{Before}
use Rattle.lines.specs.declared.entries.Entering.{Entering}

module _ (e : Entering) where
  quantities : (b : Before) (ps : List Piece) → sum_by (λ x. x.quantity) (entries_from e b ps) ≡ sum_by (λ p. p.quantity) ps
  quantities b [] = refl
  quantities b (p ∷ ps) =
      omega (arith, sum_by-cons (λ x. x.quantity) (entry_after e b p) (entries_from e (after e b p) ps), sum_by-cons (λ x. x.quantity) p ps, quantities (after e b p) ps)

  amounts : (b : Before) (ps : List Piece) → sum_by (row_worth (each_of e)) (entries_from e b ps) ≡ sum_by (piece_worth (each_of e)) ps
  amounts b [] = refl
  amounts b (p ∷ ps) =
      omega (arith, sum_by-cons (row_worth (each_of e)) (entry_after e b p) (entries_from e (after e b p) ps), sum_by-cons (piece_worth (each_of e)) p ps, amounts (after e b p) ps)

  says : (b : Before) (ps : List Piece) → All (Says e) (entries_from e b ps)
  says b [] = All-nil (Says e)
  says b (p ∷ ps) =
      All-cons (Says e) (entry_after e b p) (entries_from e (after e b p) ps)
      (record { group = refl; kind = refl; order_type = refl; order = refl; new_broker = refl; new_account = refl })
      (says (after e b p) ps)

  running : (b : Before) (ps : List Piece) (before : List Entry) (x : Entry) (behind : List Entry) → entries_from e b ps ≡ before ++ x ∷ behind → Runs e b before x
  running b [] [] x behind s = let n : 0 ≡ suc (length behind) = ap length s in absurd (omega arith)
  running b [] (y ∷ ys) x behind s = let n : 0 ≡ suc (length (ys ++ x ∷ behind)) = ap length s in absurd (omega arith)
  running b (p ∷ ps) [] x behind s =
      let same : entry_after e b p ≡ x = cc in
      subst (Runs e b []) same (record { quantity = omega arith; amount = omega arith; number = omega arith })
  running b (p ∷ ps) (y ∷ ys) x behind s =
      let front : entry_after e b p ≡ y = cc in
      let rest : entries_from e (after e b p) ps ≡ ys ++ x ∷ behind = cc in
      let on = running (after e b p) ps ys x behind rest in
      let here : p.quantity ≡ y.quantity = ap (λ k. k.quantity) front in
      let worth : piece_worth (each_of e) p ≡ row_worth (each_of e) y = ap (row_worth (each_of e)) front in
      record {
        quantity = omega (arith, on.quantity, here, sum_by-cons (λ k. k.quantity) y ys);
        amount = omega (arith, on.amount, worth, sum_by-cons (row_worth (each_of e)) y ys);
        number = omega (arith, on.number);
      }

  pub length-entries : (b : Before) (ps : List Piece) → length (entries_from e b ps) ≡ length ps
  length-entries b [] = refl
  length-entries b (p ∷ ps) = ap suc (length-entries (after e b p) ps)

  pub entered : (b : Before) (ps : List Piece) → Entered e b ps (entries_from e b ps)
  entered b ps = record { quantities = quantities b ps; amounts = amounts b ps; says = says b ps; running = running b ps }
