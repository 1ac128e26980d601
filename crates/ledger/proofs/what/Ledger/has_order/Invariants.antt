use Rattle.std.proofs.Common.{◌≡◌, drop}
use Rattle.ledger.specs.Rows.{has_order}
use Rattle.ledger.proofs.what.Ledger.has_order.Given as goal

-- what is left of the rows gives the answer
abbrev pub invariant-loop-i : goal.invariant-loop-i
invariant-loop-i g l = has_order l.order (drop l.i (g.Self.Ledger.rows l.self)) ≡ has_order l.order (g.Self.Ledger.rows l.self)
