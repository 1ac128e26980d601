use Rattle.std.proofs.Common.{◌≡◌, ◌≤◌, fold, take}
use Rattle.measured.specs.Days.{stand, with_line}
use Rattle.measured.proofs.running.take_lines.Given as goal

abbrev pub invariant-loop-line : goal.invariant-loop-line
invariant-loop-line g l = record {
  so_far : stand l.day l.replies l.accepted ≡ fold (with_line l.clock) (stand l.initial.day l.initial.replies 0) (take l.line-index l.lines);
  bound : l.accepted ≤ l.line-index;
}
