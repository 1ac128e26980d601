use Rattle.std.proofs.Common.{sym}
use Rattle.blocks.proofs.Holding.{length-rows_in}
use Rattle.blocks.proofs.filled.calls.BlocksLedger.count.Goals as goal

pub returns : goal.returns
returns c = sym (length-rows_in c.args.self.now.len c.args.self.now.bytes.now)
