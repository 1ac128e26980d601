use Rattle.std.proofs.Common.{◌+◌, cond, is_some, length}
use Rattle.daybook.proofs.main.Given as goal

-- the lines that are left, and the day that is to be opened
abbrev pub decreases-loop-next : goal.decreases-loop-next
decreases-loop-next l = cond (is_some l.next) (length l.script.lines + 1) 0
