use Rattle.std.proofs.Common.{◌≡◌, length, false}
use Rattle.groups.specs.Groups.{any_below}
use Rattle.book.specs.Questions.{unfinished_at}
use Rattle.book.proofs.day.Day.verdict.Given as goal

abbrev pub invariant-loop-number : goal.invariant-loop-number
invariant-loop-number g l = record {
  all : l.n ≡ length l.self.groups;
  finished : any_below (unfinished_at l.self) l.number ≡ false;
}
