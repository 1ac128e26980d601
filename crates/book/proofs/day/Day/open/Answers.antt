use Rattle.std.proofs.Common.{rules, sym, subst}
use Rattle.book.specs.Law.{Balanced}
use Rattle.book.proofs.Law.{balanced}
use Rattle.book.proofs.day.Day.open.Goals as goal

pub returns-clause-new : goal.returns-clause-new
returns-clause-new g c = search rules

pub returns-clause-law : goal.returns-clause-law
returns-clause-law g c = λ calls. subst (λ b. Balanced b calls) (sym (returns-clause-new g c)) (balanced g.F.Family.allows g.F.Family.layout g.F.Family.extent g.met.F.Family.fit g.met.F.Family.alike _ _ c.args.broker.now c.args.date c.args.first calls)
