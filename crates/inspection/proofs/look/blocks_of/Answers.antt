use Rattle.std.proofs.Common.{◌/◌, length, take, ap, arith}
use Rattle.inspection.proofs.Cutting.{first-chunks}
use Rattle.inspection.proofs.look.blocks_of.Goals as goal

pub returns-clause-value : goal.returns-clause-value
returns-clause-value c =
    let bytes = c.args.bytes.now in
    let n = c.blocks_in.result in
    cc (ap (λ l. take n l) c.as_chunks.ensures.front, first-chunks 512 n (length bytes / 512) bytes (omega arith))
