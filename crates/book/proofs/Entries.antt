-- The entries that a filing makes: what they come to, their running figures and their trade numbers.
use Rattle.std.proofs.Common.{◌≡◌, ℕ, ◌+◌, ◌*◌, ◌<◌, ◌≤◌, Bool, true, false, cond, ◌&&◌, eqb, List, [], ◌∷◌, ◌++◌, map, length, None, sum_by, refl, sym, ap, subst, ◌∙◌, arith, append_assoc, append-nil}
use Rattle.std.specs.List.{AllByRecursion}
use Rattle.std.proofs.lemmas.List.Elements.{recursion_from_All}
use Rattle.std.proofs.lemmas.List.Sums.{sum_by-append}
use Rattle.std.proofs.lemmas.Bool.{eqb-true, eq-eqb, and_parts, and_from}
use Rattle.lots.specs.Pieces.{piece_worth}
use Rattle.lots.specs.Units.{kind_number, shares_to_unit}
use Rattle.lots.specs.declared.cut.Piece.{Piece}
use Rattle.ledger.specs.Rows.{picked, of_kind, worth_of}
use Rattle.ledger.specs.declared.row.Entry.{Entry}
use Rattle.lines.specs.Entries.{each_of, row_worth, entries_from, after, Entered, Says}
use Rattle.lines.specs.declared.entries.Before.{Before}
use Rattle.lines.specs.declared.entries.Entering.{Entering}
use Rattle.lines.proofs.EntriesLaw.{entered}
use Rattle.lines.specs.Enter.{before_in}
use Rattle.book.specs.Held.{kind_worth, alike, Runs}
use Rattle.book.proofs.Numbers.{Successive}
use Rattle.book.proofs.Rows.{InKind, sum_of, shares_of, quantity-sum, worth-sum, AllRun}
use Rattle.book.proofs.Sums.{all_of, all_weaker, sum_by-same, sum_by-times, sum_by-all}

-- entries of one group and kind behind rows run on from what these hold
module _ (e : Entering) (rows : List Entry) (next : ℕ) (ps : List Piece) (u : ℕ) (unit : shares_to_unit e.lot.kind e.lot.size ≡ cond (eqb (kind_number e.lot.kind) 0) u 1) where
  abbrev start : Before
  start = before_in rows e next

  abbrev xs : List Entry
  xs = entries_from e start ps

  made : Entered e start ps xs
  made = entered e start ps

  pub says_each : AllByRecursion (Says e) xs
  says_each = recursion_from_All (Says e) xs made.says

  pub alike_each : AllByRecursion (InKind e.group (kind_number e.lot.kind)) xs
  alike_each = all_weaker (Says e) (InKind e.group (kind_number e.lot.kind)) (λ x s. (s.group, s.kind)) xs says_each

  pub shares_each_come : sum_by (shares_of (each_of e)) xs ≡ sum_by (λ p. p.quantity) ps * each_of e
  shares_each_come = sum_by-times (λ x. x.quantity) (each_of e) xs ∙ ap (λ n. n * each_of e) made.quantities

  pub worths_each_come : sum_by (row_worth (each_of e)) xs ≡ sum_by (piece_worth (each_of e)) ps
  worths_each_come = made.amounts

  -- a front of the entries
  front_alike : (front behind : List Entry) → xs ≡ front ++ behind → AllByRecursion (InKind e.group (kind_number e.lot.kind)) front
  front_alike front behind q = all_front front (subst (AllByRecursion (InKind e.group (kind_number e.lot.kind))) q alike_each)
    where
      all_front : (front : List Entry) → AllByRecursion (InKind e.group (kind_number e.lot.kind)) (front ++ behind) → AllByRecursion (InKind e.group (kind_number e.lot.kind)) front
      all_front [] h = tt
      all_front (y ∷ ys) h = (h.0, all_front ys h.1)

  -- a weight of the rows that are alike x
  module _ (x : Entry) (here : InKind e.group (kind_number e.lot.kind) x) (w : Entry → ℕ) where
    same_test : (y : Entry) → alike x y ≡ of_kind e.group (kind_number e.lot.kind) y
    same_test y = ap (λ g. eqb y.group g && eqb y.kind x.kind) here.0 ∙ ap (λ k. eqb y.group e.group && eqb y.kind k) here.1

    of_rows : sum_by (λ y. cond (alike x y) (w y) 0) rows ≡ sum_of e.group (kind_number e.lot.kind) w rows
    of_rows = sum_by-same _ _ rows (all_of _ (λ y. ap (λ c. cond c (w y) 0) (same_test y)) rows)

    all_alike : (front : List Entry) → AllByRecursion (InKind e.group (kind_number e.lot.kind)) front → AllByRecursion (λ y. alike x y ≡ true) front
    all_alike front h = all_weaker (InKind e.group (kind_number e.lot.kind)) (λ y. alike x y ≡ true) (λ y k. same_test y ∙ and_from (eqb y.group e.group) (eqb y.kind (kind_number e.lot.kind)) (eq-eqb y.group e.group k.0) (eq-eqb y.kind (kind_number e.lot.kind) k.1)) front h

    of_front : (front : List Entry) → AllByRecursion (InKind e.group (kind_number e.lot.kind)) front → sum_by (λ y. cond (alike x y) (w y) 0) front ≡ sum_by w front
    of_front front h = sum_by-all (alike x) w true front (all_alike front h)

    -- of the rows, a front of the entries and x itself
    together : (front : List Entry) → AllByRecursion (InKind e.group (kind_number e.lot.kind)) front → sum_by (λ y. cond (alike x y) (w y) 0) ((rows ++ front) ++ x ∷ []) ≡ sum_of e.group (kind_number e.lot.kind) w rows + sum_by w front + w x
    together front h =
        let a = sum_by-append (λ y. cond (alike x y) (w y) 0) (rows ++ front) (x ∷ []) in
        let b = sum_by-append (λ y. cond (alike x y) (w y) 0) rows front in
        let c = of_rows in
        let d = of_front front h in
        let k : sum_by (λ y. cond (alike x y) (w y) 0) (x ∷ []) ≡ sum_by w (x ∷ []) = of_front (x ∷ []) (here, tt) in
        omega arith

  -- the worth of a row of the kind
  same_worth : (y : Entry) → y.kind ≡ kind_number e.lot.kind → kind_worth u y ≡ row_worth (each_of e) y
  same_worth y k = ap (λ n. (y.quantity * cond (eqb n 0) u 1) * y.price) k ∙ ap (λ n. (y.quantity * n) * y.price) (sym unit)

  worth_of_rows : sum_of e.group (kind_number e.lot.kind) (kind_worth u) rows ≡ worth_of (picked e.group (kind_number e.lot.kind) None) rows * each_of e
  worth_of_rows = sum_by-same _ _ rows (all_of _ each_row rows) ∙ sym (worth-sum e.group (kind_number e.lot.kind) (each_of e) rows)
    where
      each_row : (y : Entry) → cond (of_kind e.group (kind_number e.lot.kind) y) (kind_worth u y) 0 ≡ cond (of_kind e.group (kind_number e.lot.kind) y) (row_worth (each_of e) y) 0
      each_row y = go (of_kind e.group (kind_number e.lot.kind) y) refl
        where
          go : (c : Bool) → of_kind e.group (kind_number e.lot.kind) y ≡ c → cond c (kind_worth u y) 0 ≡ cond c (row_worth (each_of e) y) 0
          go true h = same_worth y (eqb-true y.kind (kind_number e.lot.kind) (and_parts (eqb y.group e.group) (eqb y.kind (kind_number e.lot.kind)) h).1)
          go false h = refl

  worth_of_front : (front : List Entry) → AllByRecursion (InKind e.group (kind_number e.lot.kind)) front → sum_by (kind_worth u) front ≡ sum_by (row_worth (each_of e)) front
  worth_of_front front h = sum_by-same _ _ front (all_weaker (InKind e.group (kind_number e.lot.kind)) _ (λ y k. same_worth y k.1) front h)

  all_at : (front : List Entry) (x : Entry) (behind : List Entry) → AllByRecursion (InKind e.group (kind_number e.lot.kind)) (front ++ x ∷ behind) → InKind e.group (kind_number e.lot.kind) x
  all_at [] x behind h = h.0
  all_at (y ∷ ys) x behind h = all_at ys x behind h.1

  runs_at : (front : List Entry) (x : Entry) (behind : List Entry) → xs ≡ front ++ x ∷ behind → Runs u (rows ++ front) x
  runs_at front x behind q =
      let r = made.running front x behind q in
      let here = all_at front x behind (subst (AllByRecursion (InKind e.group (kind_number e.lot.kind))) q alike_each) in
      let f = front_alike front (x ∷ behind) q in
      let a = together x here (λ y. y.quantity) front f in
      let b = quantity-sum e.group (kind_number e.lot.kind) rows in
      let c = together x here (kind_worth u) front f in
      let d = worth_of_rows in
      let g = worth_of_front front f in
      let k = same_worth x here.1 in
      record {
        quantity = omega (arith, r.quantity);
        amount = omega (arith, r.amount);
      }

  -- one after another
  module _ (units : ℕ → ℕ) (tells : units e.group ≡ u) where
    run_from : (done rest : List Entry) → xs ≡ done ++ rest → AllRun units (rows ++ done) rest
    run_from done [] q = tt
    run_from done (x ∷ rest) q =
        let here = all_at done x rest (subst (AllByRecursion (InKind e.group (kind_number e.lot.kind))) q alike_each) in (
          subst (λ n. Runs n (rows ++ done) x) (sym (ap units here.0 ∙ tells)) (runs_at done x rest q),
          subst (λ l. AllRun units l rest) (sym (append_assoc rows done (x ∷ []))) (run_from (done ++ x ∷ []) rest (q ∙ sym (append_assoc done (x ∷ []) rest))),
        )

    pub entries_run : AllRun units rows xs
    entries_run = subst (λ l. AllRun units l xs) (append-nil rows) (run_from [] xs refl)

-- trade numbers follow one another
pub numbers_follow : (e : Entering) (b : Before) (ps : List Piece) → Successive b.trade_number (map (λ x. x.trade_number) (entries_from e b ps))
numbers_follow e b [] = tt
numbers_follow e b (p ∷ ps) = (refl, numbers_follow e (after e b p) ps)

-- and so stay below where they end
pub below_end : (n m : ℕ) (xs : List Entry) → n + length xs ≤ m → Successive n (map (λ x. x.trade_number) xs) → AllByRecursion (λ x. x.trade_number < m) xs
below_end n m [] h s = tt
below_end n m (x ∷ xs) h s =
    let e = s.0 in
    (omega (arith, h, e), below_end (n + 1) m xs (omega (arith, h)) s.1)
