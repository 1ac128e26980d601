-- The table of a filing: first what is promised of it, then how it is made. Assumes nothing.
use Rattle.std.specs.Prelude.{All, ◌≡◌, ℕ, ◌+◌, ◌*◌, ◌≤◌, Bool, ◌&&◌, List, [], ◌∷◌, ◌++◌, length, vec_items, sum_by, ◌==◌}
use Rattle.lots.specs.declared.cut.Piece.{Piece}
use Rattle.lots.specs.declared.units.Cents.{Cents}
use Rattle.lots.specs.Units.{shares_to_unit}
use Rattle.lots.specs.Pieces.{piece_worth, pieces_of}
use Rattle.preview.specs.Families.{cuts}
use Rattle.preview.specs.Judge.{runs_of}
use Rattle.preview.specs.declared.asked.FilingTerms.{FilingTerms}
use Rattle.preview.specs.declared.lines.Line.{Line}
use Rattle.preview.specs.declared.lines.Table.{Table}

-- the shares in one of what the quantity counts
abbrev pub shares_each : FilingTerms Cents → ℕ
shares_each t = shares_to_unit t.kind t.size

-- a line's figures belong together
pub record Fair (s : ℕ) (l : Line) : Type 0 where
  pub shares : l.shares.count ≡ l.quantity * s
  pub amount : l.amount.count ≡ l.shares.count * l.price.count

-- a line's running figures are the sums down to it, the line included
pub record Runs (before : List Line) (l : Line) : Type 0 where
  pub quantity : l.running_quantity ≡ sum_by (λ k. k.quantity) before + l.quantity
  pub amount : l.running_amount.count ≡ sum_by (λ k. k.amount.count) before + l.amount.count

-- the lines come out to what was filed, no share and no cent more or less
pub record Balanced (t : FilingTerms Cents) (ls : List Line) : Type 0 where
  pub quantities : sum_by (λ l. l.quantity) ls ≡ t.quantity
  pub shares : sum_by (λ l. l.shares.count) ls ≡ t.quantity * shares_each t
  pub amounts : sum_by (λ l. l.amount.count) ls ≡ t.amount.count
  pub fair : All (Fair (shares_each t)) ls
  pub running : (before : List Line) (l : Line) (after : List Line) → ls ≡ before ++ l ∷ after → Runs before l
  pub few : length ls ≤ 22

-- the line of a piece of units of s shares, after a running quantity and amount
abbrev pub line_of : ℕ → ℕ → ℕ → Piece → Line
line_of s q a p = record {
  quantity = p.quantity;
  shares = record { count = p.quantity * s };
  price = p.price;
  amount = record { count = piece_worth s p };
  running_quantity = q + p.quantity;
  running_amount = record { count = a + piece_worth s p };
}

abbrev pub lines_from : ℕ → ℕ → ℕ → List Piece → List Line
lines_from s q a [] = []
lines_from s q a (p ∷ ps) = line_of s q a p ∷ lines_from s (q + p.quantity) (a + piece_worth s p) ps

-- a line for each piece of the filing
abbrev pub lines_of : FilingTerms Cents → List Line
lines_of t = lines_from (shares_each t) 0 0 (pieces_of (cuts t.family t.kind) (runs_of t))

-- the table's figures are the sums of its lines
pub record Summed (table : Table) : Type 0 where
  pub quantity : table.quantity ≡ sum_by (λ l. l.quantity) (vec_items table.lines)
  pub shares : table.shares.count ≡ sum_by (λ l. l.shares.count) (vec_items table.lines)
  pub amount : table.amount.count ≡ sum_by (λ l. l.amount.count) (vec_items table.lines)

-- the table's quantity and amount are those that were filed
abbrev pub agrees : Table → FilingTerms Cents → Bool
agrees table t = table.quantity == t.quantity && table.amount.count == t.amount.count
