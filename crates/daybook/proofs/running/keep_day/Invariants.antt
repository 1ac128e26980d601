use Rattle.std.proofs.Common.{◌≡◌, ◌≤◌, length, None}
use Rattle.book.specs.Calls.{run}
use Rattle.transfer.specs.Transfers.{nought}
use Rattle.daybook.specs.Asked.{calls_of}
use Rattle.daybook.proofs.running.keep_day.Given as goal

-- the lines that are left make of the day what all of them make of the day as it was
abbrev pub invariant-loop-line : goal.invariant-loop-line
invariant-loop-line g l = record {
  left : run l.day (calls_of l.day None l.script.lines) ≡ run l.initial.day (calls_of l.initial.day None l.initial.script.lines);
  fewer : length l.script.lines ≤ length l.initial.script.lines;
}

abbrev pub decreases-loop-line : goal.decreases-loop-line
decreases-loop-line g l = length l.script.lines
