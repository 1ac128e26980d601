use Rattle.std.proofs.Common.{rules}
use Rattle.inspection.specs.Sound.{count_in}
use Rattle.inspection.proofs.look.count_in.Goals as goal

pub returns : goal.returns
unfolding count_in
returns c = search rules
