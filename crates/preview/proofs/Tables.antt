-- The lines of a filing come out to it. Assumes nothing.
use Rattle.std.proofs.Common.{◌≡◌, ℕ, suc, ◌+◌, ◌*◌, ◌<◌, ◌≤◌, true, List, [], ◌∷◌, ◌++◌, length, sum_by, sym, refl, ap, ◌∙◌, subst, add-mul, arith}
use Rattle.std.specs.List.{All}
use Rattle.std.proofs.lemmas.Nat.{mul-le}
use Rattle.std.proofs.lemmas.List.{append_assoc, append-nil}
use Rattle.std.proofs.lemmas.List.Elements.{All-nil, All-cons}
use Rattle.std.proofs.lemmas.List.Sums.{sum_by-cons}
use Rattle.std.proofs.lemmas.Bool.{and_parts}
use Rattle.lots.specs.declared.cut.Piece.{Piece}
use Rattle.lots.specs.declared.units.Cents.{Cents}
use Rattle.lots.specs.Pieces.{piece_worth, pieces_of}
use Rattle.lots.specs.Split.{Exact}
use Rattle.lots.proofs.Cutting.{pieces-law}
use Rattle.lots.proofs.Figures.{unit_range, quantity_range, exact_runs, pieces-quantity, pieces-worth}
use Rattle.preview.specs.Families.{most_units, cuts}
use Rattle.preview.specs.Judge.{runs_of, good_quantity, good_amount, passes}
use Rattle.preview.specs.Table.{shares_each, Fair, Balanced, line_of, lines_from, lines_of}
use Rattle.preview.specs.declared.asked.Family.{Family}
use Rattle.preview.specs.declared.asked.Family.TheVariants.{Plan, Omnibus}
use Rattle.preview.specs.declared.asked.FilingTerms.{FilingTerms}
use Rattle.preview.specs.declared.lines.Line.{Line}

-- the sums of lines

module _ (s : ℕ) where
  lines-quantity : (q a : ℕ) (ps : List Piece) → sum_by (λ l. l.quantity) (lines_from s q a ps) ≡ sum_by (λ p. p.quantity) ps
  lines-quantity q a [] = refl
  lines-quantity q a (p ∷ ps) =
      let rest = lines_from s (q + p.quantity) (a + piece_worth s p) ps in
      omega (arith, sum_by-cons (λ l. l.quantity) (line_of s q a p) rest, sum_by-cons (λ x. x.quantity) p ps, lines-quantity (q + p.quantity) (a + piece_worth s p) ps)

  lines-shares : (q a : ℕ) (ps : List Piece) → sum_by (λ l. l.shares.count) (lines_from s q a ps) ≡ sum_by (λ p. p.quantity) ps * s
  lines-shares q a [] = omega arith
  lines-shares q a (p ∷ ps) =
      let rest = lines_from s (q + p.quantity) (a + piece_worth s p) ps in
      omega (arith, sum_by-cons (λ l. l.shares.count) (line_of s q a p) rest, ap (λ n. n * s) (sum_by-cons (λ x. x.quantity) p ps), add-mul p.quantity (sum_by (λ x. x.quantity) ps) s, lines-shares (q + p.quantity) (a + piece_worth s p) ps)

  lines-amount : (q a : ℕ) (ps : List Piece) → sum_by (λ l. l.amount.count) (lines_from s q a ps) ≡ sum_by (piece_worth s) ps
  lines-amount q a [] = refl
  lines-amount q a (p ∷ ps) =
      let rest = lines_from s (q + p.quantity) (a + piece_worth s p) ps in
      omega (arith, sum_by-cons (λ l. l.amount.count) (line_of s q a p) rest, sum_by-cons (piece_worth s) p ps, lines-amount (q + p.quantity) (a + piece_worth s p) ps)

  lines-length : (q a : ℕ) (ps : List Piece) → length (lines_from s q a ps) ≡ length ps
  lines-length q a [] = refl
  lines-length q a (p ∷ ps) = ap suc (lines-length (q + p.quantity) (a + piece_worth s p) ps)

  lines-fair : (q a : ℕ) (ps : List Piece) → All (Fair s) (lines_from s q a ps)
  lines-fair q a [] = All-nil (Fair s)
  lines-fair q a (p ∷ ps) =
      let rest = lines-fair (q + p.quantity) (a + piece_worth s p) ps in
      All-cons (Fair s) (line_of s q a p) _ (record { shares = refl; amount = refl }) rest

  -- running figures go on from q and a
  abbrev Goes : ℕ → ℕ → List Line → Line → Type 0
  Goes q a before l = (l.running_quantity ≡ q + sum_by (λ k. k.quantity) before + l.quantity) × (l.running_amount.count ≡ a + sum_by (λ k. k.amount.count) before + l.amount.count)

  lines-running : (q a : ℕ) (ps : List Piece) (before : List Line) (l : Line) (after : List Line) → lines_from s q a ps ≡ before ++ l ∷ after → Goes q a before l
  lines-running q a [] [] l after e = let n : 0 ≡ suc (length after) = ap length e in absurd (omega arith)
  lines-running q a [] (b ∷ bs) l after e = let n : 0 ≡ suc (length (bs ++ l ∷ after)) = ap length e in absurd (omega arith)
  lines-running q a (p ∷ ps) [] l after e = let same : line_of s q a p ≡ l = cc in subst (Goes q a []) same (omega arith, omega arith)
  lines-running q a (p ∷ ps) (b ∷ bs) l after e =
      let head : line_of s q a p ≡ b = cc in
      let rest : lines_from s (q + p.quantity) (a + piece_worth s p) ps ≡ bs ++ l ∷ after = cc in
      let on = lines-running (q + p.quantity) (a + piece_worth s p) ps bs l after rest in
      let here : p.quantity ≡ b.quantity = ap (λ k. k.quantity) head in
      let worth-here : piece_worth s p ≡ b.amount.count = ap (λ k. k.amount.count) head in
      (omega (arith, on.0, sum_by-cons (λ k. k.quantity) b bs), omega (arith, on.1, sum_by-cons (λ k. k.amount.count) b bs))

-- what judging a filing's figures makes sure of
pub record Figures (t : FilingTerms Cents) : Type 0 where
  pub some : 0 < t.quantity
  pub most : t.quantity ≤ 10000
  pub unit : 0 < shares_each t
  pub large : shares_each t ≤ 1000
  pub exact : Exact t.quantity (shares_each t) t.amount.count (runs_of t)

most-units : (f : Family) → most_units f ≤ 10000
most-units Plan = omega arith
most-units Omnibus = omega arith

pub figures : (t : FilingTerms Cents) → passes t ≡ true → Figures t
figures t good =
    let p = and_parts (good_quantity t) _ good in
    let range = quantity_range t.kind t.size (most_units t.family) t.quantity p.0 in
    let size = unit_range t.kind t.size in
    record {
      some = range.0;
      most = range.1 (most-units t.family);
      unit = size.0;
      large = size.1;
      exact = exact_runs t.kind t.size (most_units t.family) t.quantity t.amount.count p.0 (and_parts (good_amount t) _ p.1).0;
    }

abbrev pub pieces_of_terms : FilingTerms Cents → List Piece
pieces_of_terms t = pieces_of (cuts t.family t.kind) (runs_of t)

module _ {t : FilingTerms Cents} (known : Figures t) where
  pub all-quantity : sum_by (λ p. p.quantity) (pieces_of_terms t) ≡ t.quantity
  all-quantity = pieces-quantity (cuts t.family t.kind) known.exact

  pub all-worth : sum_by (piece_worth (shares_each t)) (pieces_of_terms t) ≡ t.amount.count
  all-worth = pieces-worth (cuts t.family t.kind) known.exact

  pub balanced : Balanced t (lines_of t)
  balanced =
      let s = shares_each t in
      let ps = pieces_of_terms t in
      record {
        quantities = lines-quantity s 0 0 ps ∙ all-quantity;
        shares = lines-shares s 0 0 ps ∙ ap (λ n. n * s) all-quantity;
        amounts = lines-amount s 0 0 ps ∙ all-worth;
        fair = lines-fair s 0 0 ps;
        running = λ before l after e. let on = lines-running s 0 0 ps before l after e in record { quantity = omega (arith, on.0); amount = omega (arith, on.1) };
        few = omega (arith, lines-length s 0 0 ps, (pieces-law (cuts t.family t.kind) (runs_of t)).few (omega (arith, known.exact.quantities, known.most)));
      }

-- the table so far: its lines and sums, and the pieces that are still to come
pub record Sofar (t : FilingTerms Cents) (ls : List Line) (q shares a : ℕ) (ps : List Piece) : Type 0 where
  pub table : ls ++ lines_from (shares_each t) q a ps ≡ lines_of t
  pub quantities : q + sum_by (λ p. p.quantity) ps ≡ t.quantity
  pub units : shares ≡ q * shares_each t
  pub amounts : a + sum_by (piece_worth (shares_each t)) ps ≡ t.amount.count

pub begins : {t : FilingTerms Cents} → Figures t → Sofar t [] 0 0 0 (pieces_of_terms t)
begins known = record { table = refl; quantities = omega (arith, all-quantity known); units = omega arith; amounts = omega (arith, all-worth known) }

module _ {t : FilingTerms Cents} {ls : List Line} {q shares a : ℕ} {p : Piece} {ps : List Piece} (sofar : Sofar t ls q shares a (p ∷ ps)) where
  pub quantity-fits : q + p.quantity ≤ t.quantity
  quantity-fits = omega (arith, sofar.quantities, sum_by-cons (λ x. x.quantity) p ps)

  pub amount-fits : a + piece_worth (shares_each t) p ≤ t.amount.count
  amount-fits = omega (arith, sofar.amounts, sum_by-cons (piece_worth (shares_each t)) p ps)

  pub shares-fit : Figures t → shares + p.quantity * shares_each t ≤ 10000000
  shares-fit known =
      omega (arith, sofar.units, add-mul q p.quantity (shares_each t), mul-le (q + p.quantity) (shares_each t) 10000 1000 (omega (arith, quantity-fits, known.most)) known.large)

  pub goes_on : Sofar t (ls ++ line_of (shares_each t) q a p ∷ []) (q + p.quantity) (shares + p.quantity * shares_each t) (a + piece_worth (shares_each t) p) ps
  goes_on = record {
    table = append_assoc ls (line_of (shares_each t) q a p ∷ []) (lines_from (shares_each t) (q + p.quantity) (a + piece_worth (shares_each t) p) ps) ∙ sofar.table;
    quantities = omega (arith, sofar.quantities, sum_by-cons (λ x. x.quantity) p ps);
    units = omega (arith, sofar.units, add-mul q p.quantity (shares_each t));
    amounts = omega (arith, sofar.amounts, sum_by-cons (piece_worth (shares_each t)) p ps);
  }

module _ {t : FilingTerms Cents} {ls : List Line} {q shares a : ℕ} (sofar : Sofar t ls q shares a []) where
  pub ends : ls ≡ lines_of t
  ends = sym (append-nil ls) ∙ sofar.table

  pub ends-quantity : q ≡ t.quantity
  ends-quantity = omega (arith, sofar.quantities)

  pub ends-amount : a ≡ t.amount.count
  ends-amount = omega (arith, sofar.amounts)

pub same-figures : {t : FilingTerms Cents} {ls ks : List Line} {q r shares units a b : ℕ} {ps : List Piece} → ks ≡ ls → r ≡ q → units ≡ shares → b ≡ a → Sofar t ls q shares a ps → Sofar t ks r units b ps
same-figures {t} {ps = ps} e f g h sofar = record {
  table = (λ i. e i ++ lines_from (shares_each t) (f i) (h i) ps) ∙ sofar.table;
  quantities = ap (λ n. n + sum_by (λ (p : Piece). p.quantity) ps) f ∙ sofar.quantities;
  units = g ∙ sofar.units ∙ ap (λ n. n * shares_each t) (sym f);
  amounts = ap (λ n. n + sum_by (piece_worth (shares_each t)) ps) h ∙ sofar.amounts;
}
