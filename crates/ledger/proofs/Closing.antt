-- Closing entries up, and what is left behind them. Assumes nothing.
use Rattle.std.proofs.Common.{◌≡◌, ℕ, ◌+◌, ◌<◌, ◌≤◌, List, ◌++◌, length, get_or, take, drop, set, sym, ap, ◌∙◌, arith}
use Rattle.ledger.specs.declared.row.Entry.{Entry}
use Rattle.std.proofs.lemmas.List.{drop-drop, drop-set-lt, get_or_default, drop-append-le, take-append-drop}

-- what a read past the end would give
abbrev pub blank : Entry
blank = record {
  group = 0;
  kind = 0;
  order_type = 0;
  order = record { first = 0; rest = 0 };
  new_broker = 0;
  new_account = 0;
  quantity = 0;
  price = 0;
  trade_number = 0;
  running_quantity = 0;
  running_amount = 0;
  type_quantity = 0;
  type_amount = 0;
}

-- an element that is read, by itself
pub itself : {X : Type 0} (xs : List X) (i : ℕ) (d : X) → i < length xs → get_or xs i d ≡ get_or xs i (get_or xs i d)
itself xs i d h = get_or_default xs i d (get_or xs i d) h

-- behind a place that is written, a list is as it was
pub behind-set : {X : Type 0} (xs ys : List X) (k : ℕ) (x : X) → drop k ys ≡ drop k xs → drop (k + 1) (set ys k x) ≡ drop (k + 1) xs
behind-set xs ys k x e =
    drop-set-lt (k + 1) ys k x (omega arith) ∙ sym (drop-drop 1 k ys) ∙ ap (drop 1) e ∙ drop-drop 1 k xs

pub front-rest : (xs new ys : List Entry) (n k : ℕ) → ys ≡ new ++ drop n xs → drop k new ≡ drop k (take n xs) → k ≤ length (take n xs) → length new ≡ length (take n xs) → drop k ys ≡ drop k xs
front-rest xs new ys n k e f h l =
    ap (drop k) e ∙ drop-append-le k new (drop n xs) (omega arith) ∙ ap (λ z. z ++ drop n xs) f ∙ sym (drop-append-le k (take n xs) (drop n xs) h) ∙ ap (drop k) (take-append-drop n xs)
