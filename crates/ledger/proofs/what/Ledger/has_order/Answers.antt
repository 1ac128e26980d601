use Rattle.std.proofs.Common.{sym, ◌∙◌, arith}
use Rattle.std.proofs.lemmas.List.{at_drop_all}
use Rattle.ledger.specs.Rows.{has_order}
use Rattle.ledger.proofs.Reading.{reads, order-found, order-passed}
use Rattle.ledger.proofs.what.Ledger.has_order.Goals as goal
use Rattle.ledger.proofs.what.Ledger.has_order.Goals.{in-Some-read+else-has_number, in_default-read}

pub returns-then-has_number : goal.returns-then-has_number
returns-then-has_number g c =
    sym (order-found c.args.order (g.Self.Ledger.rows c.args.self.now) c.loop-i.i c.in-Some-read.e (sym c.read.ensures ∙ c.in-Some-read.is) (sym c.if-has_number.ensures)) ∙ c.loop-i.invariant

pub loop-i-preserved : goal.loop-i-preserved
loop-i-preserved g c =
    elim c.match-read.branch [
      | in-Some-read+else-has_number w ↦ sym (order-passed c.args.order (g.Self.Ledger.rows c.args.self.now) c.loop-i.i w.in-Some-read.e (sym c.read.ensures ∙ w.in-Some-read.is) (sym w.has_number.ensures ∙ w.if-has_number.false)) ∙ c.loop-i.invariant
      | in_default-read w ↦ absurd (reads (g.Self.Ledger.rows c.args.self.now) c.loop-i.i (omega (arith, c.count-i-end.ensures)) (sym c.read.ensures ∙ w.in_default-read.is))
    ]

pub returns : goal.returns
returns g c = sym (at_drop_all (has_order c.args.order) (g.Self.Ledger.rows c.args.self.now) c.loop-i.i (omega (arith, c.count-i-end.ensures))) ∙ c.loop-i.invariant
