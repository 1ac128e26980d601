use Rattle.std.proofs.Common.{ap, ◌∙◌, arith}
use Rattle.blocks.specs.Image.{sealed}
use Rattle.blocks.proofs.Laying.{mid-put}
use Rattle.blocks.proofs.block.fill.Goals as goal

pub returns : goal.returns
returns c =
    c.seal.ensures
    ∙ ap (sealed c.args.count c.args.number) (mid-put c.args.all.now c.copy_from_slice.new.self (omega arith) (omega arith) ∙ c.copy_from_slice.ensures.after)
