use Rattle.std.proofs.Common.{◌≡◌, ◌≤◌, [], fold, take}
use Rattle.measured.specs.Days.{stand, with_total}
use Rattle.measured.proofs.running.take_totals.Given as goal

abbrev pub invariant-loop-total : goal.invariant-loop-total
invariant-loop-total g l = record {
  so_far : stand l.day [] l.accepted ≡ fold (with_total l.unit) (stand l.initial.day [] 0) (take l.total-index l.totals);
  bound : l.accepted ≤ l.total-index;
}
