use Rattle.lots.proofs.Cutting.{pieces-law}
use Rattle.lots.proofs.cut.Pieces.of.Goals as goal

pub returns-clause-law : goal.returns-clause-law
returns-clause-law c = pieces-law c.args.cut (c.args.first, c.args.second)
