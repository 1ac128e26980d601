use Rattle.std.proofs.Common.{rules}
use Rattle.inspection.specs.Sound.{number_in}
use Rattle.inspection.proofs.look.number_in.Goals as goal

pub returns : goal.returns
unfolding number_in
returns c = search rules
