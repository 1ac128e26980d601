-- A filing's figures that passed the checks are within their ranges, and its pieces come out to it. Assumes nothing.
use Rattle.std.proofs.Common.{◌≡◌, ℕ, ◌+◌, ◌%◌, ◌<◌, ◌≤◌, Bool, true, eqb, leb, sum_by, ap, ◌∙◌, arith}
use Rattle.std.proofs.lemmas.Bool.{and_parts, leb-true, eqb-true}
use Rattle.std.proofs.lemmas.List.Sums.{sum_by-append}
use Rattle.lots.specs.Limits.{quantity_fits, amount_fits}
use Rattle.lots.specs.Pieces.{piece_worth, pieces_of}
use Rattle.lots.specs.Split.{Run, runs, Exact}
use Rattle.lots.specs.Units.{shares_to_unit}
use Rattle.lots.specs.declared.units.Kind.{Kind}
use Rattle.lots.specs.declared.units.Kind.TheVariants.{BoardLot, OddLot}
use Rattle.lots.specs.declared.units.UnitSize.{UnitSize}
use Rattle.lots.specs.declared.units.UnitSize.TheVariants.{One, Ten, Hundred, Thousand}
use Rattle.lots.proofs.Exactly.{lawful}
use Rattle.lots.proofs.Cutting.{pieces-law}

-- a trading unit is 1 to 1,000 shares
pub unit_range : (kind : Kind) (size : UnitSize) → (0 < shares_to_unit kind size) × (shares_to_unit kind size ≤ 1000)
unit_range BoardLot One = (omega arith, omega arith)
unit_range BoardLot Ten = (omega arith, omega arith)
unit_range BoardLot Hundred = (omega arith, omega arith)
unit_range BoardLot Thousand = (omega arith, omega arith)
unit_range OddLot size = (omega arith, omega arith)

pub quantity_range : (kind : Kind) (size : UnitSize) (most q : ℕ) → quantity_fits kind size most q ≡ true → (0 < q) × (most ≤ 10000 → q ≤ 10000)
quantity_range BoardLot size most q h =
    let p = and_parts (leb 1 q) (leb q most) h in
    (leb-true 1 q p.0, λ few. omega (arith, leb-true q most p.1))
quantity_range OddLot size most q h =
    let p = and_parts (leb 1 q) _ h in
    (leb-true 1 q p.0, λ few. omega (arith, leb-true q 999 (and_parts (leb q 999) _ p.1).0))

pub amount_range : (kind : Kind) (size : UnitSize) (cents : ℕ) → amount_fits kind size cents ≡ true → (0 < cents) × (cents % shares_to_unit kind size ≡ 0)
amount_range kind size cents h =
    let p = and_parts (leb 1 cents) (eqb (cents % shares_to_unit kind size) 0) h in
    (leb-true 1 cents p.0, eqb-true (cents % shares_to_unit kind size) 0 p.1)

pub exact_runs : (kind : Kind) (size : UnitSize) (most q cents : ℕ) → quantity_fits kind size most q ≡ true → amount_fits kind size cents ≡ true → Exact q (shares_to_unit kind size) cents (runs q (shares_to_unit kind size) cents)
exact_runs kind size most q cents h k =
    (lawful q (shares_to_unit kind size) cents).exact ((quantity_range kind size most q h).0, (unit_range kind size).0, (amount_range kind size cents k).1)

-- the pieces of exact runs
module _ (cut : Bool) {q s cents : ℕ} {r : Run × Run} (exact : Exact q s cents r) where
  pub pieces-quantity : sum_by (λ p. p.quantity) (pieces_of cut r) ≡ q
  pieces-quantity =
      let law = pieces-law cut r in
      ap (sum_by (λ p. p.quantity)) law.order ∙ sum_by-append (λ p. p.quantity) law.front law.back ∙ (λ i. law.first.quantities i + law.second.quantities i) ∙ exact.quantities

  pub pieces-worth : sum_by (piece_worth s) (pieces_of cut r) ≡ cents
  pieces-worth =
      let law = pieces-law cut r in
      ap (sum_by (piece_worth s)) law.order ∙ sum_by-append (piece_worth s) law.front law.back ∙ (λ i. law.first.amounts s i + law.second.amounts s i) ∙ exact.amounts
