use Rattle.std.proofs.Common.{◌≡◌}
use Rattle.book.specs.Questions.{verdict_answer}
use Rattle.measured.specs.Days.{repeated}
use Rattle.measured.proofs.running.measure_verdicts.Given as goal

abbrev pub invariant-loop : goal.invariant-loop
invariant-loop g l = l.sum ≡ repeated l.counter (verdict_answer l.day)
