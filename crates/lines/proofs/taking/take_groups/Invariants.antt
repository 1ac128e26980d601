use Rattle.std.proofs.Common.{◌≡◌}
use Rattle.groups.specs.Groups.{groups_of, totals_of}
use Rattle.lines.specs.Taking.{flagged, rows_left, marked}
use Rattle.lines.proofs.Steps.{before}
use Rattle.lines.proofs.taking.take_groups.Given as goal

abbrev pub invariant-loop-n : goal.invariant-loop-n
invariant-loop-n g l = record {
  list : g.L.Ledger.rows l.ledger ≡ rows_left (before l.n (flagged l.taken)) (g.L.Ledger.rows l.initial.ledger);
  same : g.L.Ledger.room l.ledger ≡ g.L.Ledger.room l.initial.ledger;
  kept : g.L.Ledger.lent l.ledger ≡ g.L.Ledger.lent l.initial.ledger;
  groups : groups_of l.table ≡ marked (before l.n (flagged l.taken)) 0 (groups_of l.initial.table);
  totals : totals_of l.table ≡ totals_of l.initial.table;
}
