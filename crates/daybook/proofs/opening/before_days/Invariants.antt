use Rattle.std.proofs.Common.{length}
use Rattle.daybook.proofs.opening.before_days.Given as goal

abbrev pub decreases-loop-line : goal.decreases-loop-line
decreases-loop-line l = length l.script.lines
