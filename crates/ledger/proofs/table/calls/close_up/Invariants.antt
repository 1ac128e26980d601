use Rattle.std.proofs.Common.{◌≡◌, drop}
use Rattle.std.proofs.lemmas.List.Filters.{FiltersInPlace}
use Rattle.ledger.specs.Rows.{others}
use Rattle.ledger.proofs.table.calls.close_up.Given as goal

-- those that stay, of the entries so far, stand in front, and nothing behind them has changed
abbrev pub invariant-loop-i : goal.invariant-loop-i
invariant-loop-i l = FiltersInPlace (others l.group l.kind) l.initial.entries l.entries l.k l.i × (drop l.k l.entries ≡ drop l.k l.initial.entries)
