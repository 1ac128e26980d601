use Rattle.std.proofs.Common.{None, subst}
use Rattle.book.specs.Book.{Book}
use Rattle.book.specs.Law.{Balanced}
use Rattle.daybook.specs.Asked.{calls_of}
use Rattle.daybook.proofs.running.run_day.Goals as goal

pub returns-clause-law : goal.returns-clause-law
returns-clause-law g c =
    let P : Book → Type 0 = λ b. Balanced b (calls_of b None c.args.script.now.lines) in
    subst P c.open-day.ensures.new (c.open-day.ensures.law (calls_of c.open-day.result None c.args.script.now.lines))
