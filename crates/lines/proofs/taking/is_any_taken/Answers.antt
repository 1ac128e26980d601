use Rattle.std.proofs.Common.{◌∙◌}
use Rattle.lines.proofs.Flags.{any-takes}
use Rattle.lines.proofs.taking.is_any_taken.Goals as goal

pub returns : goal.returns
returns c = c.contains.ensures.value ∙ any-takes c.args.taken.now
