use Rattle.ledger.specs.Coming.{to_come}
use Rattle.ledger.specs.Rows.{picked}
use Rattle.ledger.proofs.Asking.{SoFar}
use Rattle.ledger.proofs.what.Ledger.survey.Given as goal

abbrev pub invariant-loop-e : goal.invariant-loop-e
invariant-loop-e g l =
    (goal.iterator-loop-e g).can_next l.e-iterator
    × (goal.iterator-loop-e g).is_finite l.e-iterator
    × SoFar (picked l.picks.0.group l.picks.0.kind l.picks.0.order_type) (g.Self.Ledger.rows l.self) (to_come g.Self.Ledger.behind l.e-iterator) l.first
    × SoFar (picked l.picks.1.group l.picks.1.kind l.picks.1.order_type) (g.Self.Ledger.rows l.self) (to_come g.Self.Ledger.behind l.e-iterator) l.second
    × SoFar (picked l.picks.2.group l.picks.2.kind l.picks.2.order_type) (g.Self.Ledger.rows l.self) (to_come g.Self.Ledger.behind l.e-iterator) l.third
