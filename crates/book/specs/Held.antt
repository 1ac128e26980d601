-- What rows hold, and what their running figures should be. Assumes nothing.
use Rattle.std.specs.Prelude.{◌≡◌, ℕ, ◌*◌, Bool, cond, ◌&&◌, List, [], ◌∷◌, ◌++◌, sum_by, ◌==◌}
use Rattle.lots.specs.Units.{kind_number}
use Rattle.lots.specs.declared.units.Kind.TheVariants.{BoardLot}
use Rattle.ledger.specs.declared.row.Entry.{Entry}

-- the shares of a row, where a trading unit has u, and its shares times price
abbrev pub row_shares : ℕ → Entry → ℕ
row_shares u e = e.quantity * cond (e.kind == kind_number BoardLot) u 1

abbrev pub kind_worth : ℕ → Entry → ℕ
kind_worth u e = row_shares u e * e.price

-- what the rows of group n hold
abbrev pub shares_held : ℕ → ℕ → List Entry → ℕ
shares_held n u rows = sum_by (λ e. cond (e.group == n) (row_shares u e) 0) rows

abbrev pub worth_held : ℕ → ℕ → List Entry → ℕ
worth_held n u rows = sum_by (λ e. cond (e.group == n) (kind_worth u e) 0) rows

-- its running figures are the sums of its group's and kind's rows down to it, that row included; `alike` is `of_kind` of ledger, written
-- out, as the law is read by itself
abbrev pub alike : Entry → Entry → Bool
alike e x = x.group == e.group && x.kind == e.kind

pub record Runs (u : ℕ) (before : List Entry) (e : Entry) : Type 0 where
  pub quantity : e.running_quantity ≡ sum_by (λ x. cond (alike e x) x.quantity 0) (before ++ e ∷ [])
  pub amount : e.running_amount ≡ sum_by (λ x. cond (alike e x) (kind_worth u x) 0) (before ++ e ∷ [])
