use Rattle.std.proofs.Common.{◌≡◌, arith, rules}
use Rattle.std.proofs.lemmas.Grind.{common_steps}
use Rattle.indexed.proofs.index.mark_order.Goals as goal

pub returns-else-is_present-clause-marks : goal.returns-else-is_present-clause-marks
returns-else-is_present-clause-marks c = record {
  free = grind (arith, common_steps);
  lookup = λ q. let h = (c.in-Ok.ensures.update.0 c.args.mark).0 q in search rules;
}

pub returns-else-ne-clause-marks : goal.returns-else-ne-clause-marks
returns-else-ne-clause-marks c =
    let same : c.or_insert-found.result.now ≡ c.args.mark = grind (arith, common_steps) in
    record {
      free = grind (arith, common_steps);
      lookup = λ q. rw (← same) (let h = (c.in-Ok.ensures.update.0 c.or_insert-found.result.now).0 q in search rules);
    }
