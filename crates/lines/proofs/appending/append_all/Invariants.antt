use Rattle.std.proofs.Common.{◌≡◌, ◌+◌, ◌≤◌, ◌++◌, length, drop}
use Rattle.lines.proofs.appending.append_all.Given as goal

abbrev pub invariant-loop-e : goal.invariant-loop-e
invariant-loop-e g l =
    (g.L.Ledger.rows l.ledger ++ drop l.e-index l.entries ≡ g.L.Ledger.rows l.initial.ledger ++ l.entries)
    × (g.L.Ledger.room l.ledger ≡ g.L.Ledger.room l.initial.ledger)
    × (g.L.Ledger.lent l.ledger ≡ g.L.Ledger.lent l.initial.ledger)
    × (length (g.L.Ledger.rows l.ledger) + length (drop l.e-index l.entries) ≤ g.L.Ledger.room l.ledger)
