use Rattle.std.proofs.Common.{◌≡◌}
use Rattle.measured.specs.Days.{open_shares, repeated}
use Rattle.measured.proofs.running.measure_figures.Given as goal

abbrev pub invariant-loop : goal.invariant-loop
invariant-loop g l = l.sum ≡ repeated l.counter (open_shares l.day l.total)
