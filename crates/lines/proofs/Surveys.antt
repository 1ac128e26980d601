-- What a look through the rows comes to.
use Rattle.std.proofs.Common.{◌≡◌, ℕ, List, None, ap, ◌∙◌}
use Rattle.ledger.specs.Rows.{held_for}
use Rattle.ledger.specs.declared.row.Entry.{Entry}
use Rattle.ledger.specs.declared.row.Held.{Held}
use Rattle.ledger.specs.declared.row.Pick.{Pick}
use Rattle.lots.specs.declared.units.Kind.TheVariants.{BoardLot, OddLot}
use Rattle.groups.specs.Sums.{traded_by}
use Rattle.groups.specs.declared.kept.Group.{Group}
use Rattle.groups.specs.declared.kept.Total.{Total}
use Rattle.groups.specs.declared.kept.Traded.{Traded}
use Rattle.lines.specs.Open.{every, standing_at, standing_with}

module _ (rows : List Entry) (s : Held × Held × Held) (a b c : Pick) (surveyed : s ≡ (held_for a rows, held_for b rows, held_for c rows)) where
  pub first : (p : Pick) → a ≡ p → s.0 ≡ held_for p rows
  first p e = ap (λ r. r.0) surveyed ∙ ap (λ q. held_for q rows) e

  pub second : (p : Pick) → b ≡ p → s.1 ≡ held_for p rows
  second p e = ap (λ r. r.1) surveyed ∙ ap (λ q. held_for q rows) e

  pub third : (p : Pick) → c ≡ p → s.2 ≡ held_for p rows
  third p e = ap (λ r. r.2) surveyed ∙ ap (λ q. held_for q rows) e

pub stands : (totals : List Total) (rows : List Entry) (n m : ℕ) (g : Group) (t : Traded) (board odd : Held) →
    m ≡ n → t ≡ traded_by m totals → board ≡ held_for (every n BoardLot None) rows → odd ≡ held_for (every n OddLot None) rows →
    standing_with t g board odd ≡ standing_at totals rows n g
stands totals rows n m g t board odd number traded of_board of_odd =
    let all : t ≡ traded_by n totals = traded ∙ ap (λ k. traded_by k totals) number in
    λ i. standing_with (all i) g (of_board i) (of_odd i)
