-- The pieces that runs come back as: first what is promised of them, then the rule. Assumes nothing.
use Rattle.std.specs.Prelude.{All, ◌≡◌, ℕ, ◌+◌, ◌-◌, ◌*◌, ◌/◌, ◌%◌, ◌<◌, ◌≤◌, Bool, true, cond, ◌&&◌, List, [], ◌∷◌, ◌++◌, length, replicate, sum_by, Option, MatchOption, ◌==◌, nat_lt}
use Rattle.lots.specs.declared.cut.Piece.{Piece}
use Rattle.lots.specs.declared.cut.Pieces.{Pieces}
use Rattle.lots.specs.Split.{Run, quantity, run_worth}
use Rattle.lots.specs.Units.{worth}

-- the most units in one piece of a run that is cut
abbrev pub largest : ℕ
largest = 499

-- the worth of a piece of units of s shares
abbrev pub piece_worth : ℕ → Piece → ℕ
piece_worth s p = worth s p.quantity p.price.count

-- pieces that come out to one run, at its price
pub record Whole (cut : Bool) (r : Run) (ps : List Piece) : Type 0 where
  pub some : All (λ p. 0 < p.quantity) ps
  pub small : cut ≡ true → All (λ p. p.quantity ≤ largest) ps
  pub prices : All (λ p. p.price ≡ r.1) ps
  pub quantities : sum_by (λ p. p.quantity) ps ≡ quantity r
  pub amounts : (s : ℕ) → sum_by (piece_worth s) ps ≡ run_worth s r

-- the pieces of two runs: those of the first, then those of the second
pub record Pieced (cut : Bool) (r : Run × Run) (ps : List Piece) : Type 0 where
  pub front : List Piece
  pub back : List Piece
  pub order : ps ≡ front ++ back
  pub first : Whole cut r.0 front
  pub second : Whole cut r.1 back
  -- a filing of at most 10,000 units comes back in at most 22 pieces
  pub few : quantity r.0 + quantity r.1 ≤ 10000 → length ps ≤ 22

-- The rule. A run that is cut has as many pieces of 499 as go into it, and one of any rest.
abbrev pub whole : Run → List Piece
whole r = cond (r.0 == 0) [] (record { quantity = r.0; price = r.1 } ∷ [])

abbrev pub cut_up : Run → List Piece
cut_up r = replicate (r.0 / largest) (record { quantity = largest; price = r.1 }) ++ whole (r.0 % largest, r.1)

abbrev pub pieces_in : Bool → Run → List Piece
pieces_in cut r = cond cut (cut_up r) (whole r)

abbrev pub pieces_of : Bool → Run × Run → List Piece
pieces_of cut r = pieces_in cut r.0 ++ pieces_in cut r.1

-- the pieces that are still to come
abbrev pub pending : Pieces → List Piece
pending p = pieces_of p.cut (p.first, p.second)

-- the next piece comes off the front; when none is left, none is to come
abbrev pub Steps : Pieces → Option Piece → Pieces → Type 0
Steps p r t = MatchOption r ((pending p ≡ []) × (pending t ≡ [])) (λ x. pending p ≡ x ∷ pending t)

-- the quantity of the next piece of a run of q
abbrev pub size_of : Bool → ℕ → ℕ
size_of cut q = cond (cut && nat_lt largest q) largest q

-- the next piece of a run, and what is left of it then
abbrev pub next_piece : Bool → Run → Piece
next_piece cut r = record { quantity = size_of cut r.0; price = r.1 }

abbrev pub after_piece : Bool → Run → Run
after_piece cut r = (r.0 - size_of cut r.0, r.1)
