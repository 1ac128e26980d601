use Rattle.std.proofs.Common.{sym, ◌∙◌}
use Rattle.book.proofs.Asking.{unfinished-verdict}
use Rattle.book.proofs.day.Day.verdict.Goals as goal

pub returns-then-is_unfinished : goal.returns-then-is_unfinished
returns-then-is_unfinished g c =
    unfinished-verdict c.args.self.now c.loop-number.number c.count-n.result c.loop-number.invariant.all c.loop-number-test.true (sym c.is_unfinished.ensures ∙ c.if-is_unfinished.true)
