use Rattle.std.proofs.Common.{◌≡◌, ◌≤◌, length, Some}
use Rattle.book.specs.Calls.{run}
use Rattle.transfer.specs.Transfers.{nought}
use Rattle.daybook.specs.Asked.{calls_of}
use Rattle.daybook.proofs.running.keep_transfers.Given as goal

-- the lines behind a transfer's begin make of the day what all of them make of the day as it was
abbrev pub invariant-loop-opening : goal.invariant-loop-opening
invariant-loop-opening g l = record {
  left : run l.day (calls_of l.day (Some nought) l.script.lines) ≡ run l.initial.day (calls_of l.initial.day (Some nought) l.initial.script.lines);
  fewer : length l.script.lines ≤ length l.initial.script.lines;
}

abbrev pub decreases-loop-opening : goal.decreases-loop-opening
decreases-loop-opening g l = length l.script.lines
