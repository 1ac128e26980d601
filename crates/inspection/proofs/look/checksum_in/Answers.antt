use Rattle.std.proofs.Common.{rules}
use Rattle.inspection.specs.Sound.{checksum_in}
use Rattle.inspection.proofs.look.checksum_in.Goals as goal

pub returns : goal.returns
unfolding checksum_in
returns c = search rules
