use Rattle.judge.specs.Totals.{asked_by}
use Rattle.book.proofs.TotalEntering.{known-in}
use Rattle.book.proofs.Judging.{judged-none}
use Rattle.book.proofs.day.Day.enter_total.Goals as goal

pub keep_total-requires-clause-placed : goal.keep_total-requires-clause-placed
keep_total-requires-clause-placed g c =
    judged-none _ c.args.self.now (asked_by c.args.asked) _ _ _ c.self.view_is c.number_for-number.ensures c.kind_for.ensures c.terms_for.ensures c.requires

pub keep_total-requires-clause-known : goal.keep_total-requires-clause-known
keep_total-requires-clause-known g c = known-in _ c.args.self.now (asked_by c.args.asked) _ c.self.view_is c.number_for-number.ensures
