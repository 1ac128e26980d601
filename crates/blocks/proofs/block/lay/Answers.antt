use Rattle.std.proofs.Common.{◌∙◌, arith}
use Rattle.blocks.proofs.Laying.{body-push}
use Rattle.blocks.proofs.block.lay.Goals as goal

pub returns : goal.returns
returns c = λ es is long.
    body-push es c.args.e _ _ _ _ is (c.copy_from_slice.ensures.after ∙ c.entry_bytes-bytes.ensures.bytes)
    (omega arith) (omega arith) (omega arith)
