use Rattle.std.proofs.Common.{subst}
use Rattle.ledger.specs.Coming.{to_come}
use Rattle.ledger.specs.Rows.{picked}
use Rattle.ledger.proofs.Asking.{SoFar, goes_on}
use Rattle.ledger.proofs.what.Ledger.survey.Goals as goal

pub loop-e-preserved : goal.loop-e-preserved
loop-e-preserved g c =
    let rows = g.Self.Ledger.rows c.args.self.now in
    let left = to_come g.Self.Ledger.behind c.next.new.self in
    let first = c.args.picks.0 in
    let second = c.args.picks.1 in
    let third = c.args.picks.2 in
    let turn = c.in-Some.ensures.steps in
    let inv = c.loop-e.invariant in (
      tt,
      tt,
      goes_on (picked first.group first.kind first.order_type) rows left c.loop-e.first c.with-first.result c.in-Some.e (subst (λ l. SoFar (picked first.group first.kind first.order_type) rows l c.loop-e.first) turn inv.2) c.with-first.ensures.value c.with-first.ensures.bound,
      goes_on (picked second.group second.kind second.order_type) rows left c.loop-e.second c.with-second.result c.in-Some.e (subst (λ l. SoFar (picked second.group second.kind second.order_type) rows l c.loop-e.second) turn inv.3) c.with-second.ensures.value c.with-second.ensures.bound,
      goes_on (picked third.group third.kind third.order_type) rows left c.loop-e.third c.with-third.result c.in-Some.e (subst (λ l. SoFar (picked third.group third.kind third.order_type) rows l c.loop-e.third) turn inv.4) c.with-third.ensures.value c.with-third.ensures.bound,
    )
