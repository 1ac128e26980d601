-- Entering a filing piece by piece.
use Rattle.std.proofs.Common.{◌≡◌, ℕ, ◌+◌, ◌^◌, ◌<◌, ◌≤◌, Bool, true, false, cond, List, [], ◌∷◌, ◌++◌, length, sum_by, ◌∙◌, arith, length-append}
use Rattle.std.proofs.lemmas.List.{append_assoc}
use Rattle.std.proofs.lemmas.List.Elements.{All-head, All-tail, All-nil, All-cons}
use Rattle.std.proofs.lemmas.List.Sums.{sum_by-cons}
use Rattle.ledger.specs.declared.row.Entry.{Entry}
use Rattle.lots.specs.Pieces.{piece_worth}
use Rattle.lots.specs.declared.cut.Piece.{Piece}
use Rattle.lines.specs.Entries.{each_of, after, entry_after, entries_from, Room}
use Rattle.lines.specs.declared.entries.Before.{Before}
use Rattle.lines.specs.declared.entries.Entering.{Entering}

-- the entries so far, and those that the pieces to come become, are the entries of all
pub record Sofar (e : Entering) (b : Before) (all : List Piece) (entries : List Entry) (at : Before) (left : List Piece) : Type 0 where
  pub list : entries ++ entries_from e at left ≡ entries_from e b all
  pub few : length all ≤ 22
  pub counted : length entries + length left ≡ length all
  pub room : Room e at left

within : (by : Bool) (t n rest m : ℕ) → t + (n + rest) < m → rest < m → cond by (t + n) 0 + rest < m
within true t n rest m h k = omega arith
within false t n rest m h k = omega arith

-- the first of the pieces fits, and the others fit behind it
module _ (e : Entering) (b : Before) (p : Piece) (ps : List Piece) (r : Room e b (p ∷ ps)) where
  quantities : b.quantity + (p.quantity + sum_by (λ x. x.quantity) ps) < 2 ^ 32
  quantities = omega (arith, sum_by-cons (λ x. x.quantity) p ps, r.quantities)

  amounts : b.amount + (piece_worth (each_of e) p + sum_by (piece_worth (each_of e)) ps) < 2 ^ 64
  amounts = omega (arith, sum_by-cons (piece_worth (each_of e)) p ps, r.amounts)

  type_quantities : b.type_quantity + (p.quantity + sum_by (λ x. x.quantity) ps) < 2 ^ 32
  type_quantities = omega (arith, sum_by-cons (λ x. x.quantity) p ps, r.type_quantities)

  type_amounts : b.type_amount + (piece_worth (each_of e) p + sum_by (piece_worth (each_of e)) ps) < 2 ^ 64
  type_amounts = omega (arith, sum_by-cons (piece_worth (each_of e)) p ps, r.type_amounts)

  pub first : Room e b (p ∷ [])
  first = record {
    trades = omega (arith, r.trades);
    quantities = omega (arith, quantities);
    amounts = omega (arith, amounts);
    type_quantities = omega (arith, type_quantities);
    type_amounts = omega (arith, type_amounts);
    prices = All-cons (λ x. x.price.count < 2 ^ 32) p [] (All-head (λ x. x.price.count < 2 ^ 32) p ps r.prices) (All-nil (λ x. x.price.count < 2 ^ 32));
  }

  pub behind : Room e (after e b p) ps
  behind = record {
    trades = omega (arith, r.trades);
    quantities = omega (arith, quantities);
    amounts = omega (arith, amounts);
    type_quantities = within e.by_type b.type_quantity p.quantity (sum_by (λ x. x.quantity) ps) (2 ^ 32) type_quantities (omega (arith, quantities));
    type_amounts = within e.by_type b.type_amount (piece_worth (each_of e) p) (sum_by (piece_worth (each_of e)) ps) (2 ^ 64) type_amounts (omega (arith, amounts));
    prices = All-tail (λ x. x.price.count < 2 ^ 32) p ps r.prices;
  }

pub goes_on : (e : Entering) (b : Before) (all : List Piece) (entries : List Entry) (at : Before) (p : Piece) (ps : List Piece) → Sofar e b all entries at (p ∷ ps) → Sofar e b all (entries ++ entry_after e at p ∷ []) (after e at p) ps
goes_on e b all entries at p ps s = record {
  list = append_assoc entries (entry_after e at p ∷ []) (entries_from e (after e at p) ps) ∙ s.list;
  few = s.few;
  counted = omega (arith, s.counted, length-append entries (entry_after e at p ∷ []));
  room = behind e at p ps s.room;
}
