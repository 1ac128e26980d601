use Rattle.std.proofs.Common.{sym, arith}
use Rattle.std.proofs.lemmas.Option.{slice_get_past}
use Rattle.blocks.specs.Image.{rows_in}
use Rattle.blocks.proofs.Holding.{length-rows_in, nth-rows_in}
use Rattle.blocks.proofs.filled.calls.BlocksLedger.read.Goals as goal

pub returns-then-i-self : goal.returns-then-i-self
returns-then-i-self c =
    sym (nth-rows_in c.args.self.now.len c.args.i c.args.self.now.bytes.now c.entry_at.result c.if-i-self.true c.entry_at.ensures)

pub returns-else-i-self : goal.returns-else-i-self
returns-else-i-self c =
    let l = length-rows_in c.args.self.now.len c.args.self.now.bytes.now in
    sym (slice_get_past (rows_in c.args.self.now.len c.args.self.now.bytes.now) c.args.i (omega arith))
