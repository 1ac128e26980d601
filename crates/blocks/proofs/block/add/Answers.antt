use Rattle.std.proofs.Common.{◌+◌, [], ◌∷◌, ◌++◌, ap, ◌∙◌, arith}
use Rattle.std.proofs.lemmas.List.{length_push}
use Rattle.blocks.specs.Image.{sealed}
use Rattle.blocks.proofs.Laying.{mid-put, block-from}
use Rattle.blocks.proofs.block.add.Goals as goal

pub returns : goal.returns
returns c = λ es is long.
    let l = length_push es c.args.e in
    c.seal.ensures
    ∙ ap (sealed (c.args.at + 1) c.args.k) (mid-put c.args.all.now c.lay.new.places (omega arith) (omega arith))
    ∙ block-from c.args.k (c.args.at + 1) (es ++ c.args.e ∷ []) _ (omega arith) (c.lay.ensures es is long)
