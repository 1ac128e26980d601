use Rattle.std.proofs.Common.{[], ◌∷◌, get_or, drop, ap, ◌∙◌, arith, length-drop}
use Rattle.std.proofs.lemmas.List.{drop_all}
use Rattle.blocks.proofs.Laying.{sealing}
use Rattle.blocks.proofs.block.seal.Goals as goal

pub returns : goal.returns
returns c =
    sealing 504 c.args.count c.args.number c.checksum.result (drop 4 c.args.all.now) _ _
    (drop_all 4 (drop 504 (drop 4 c.args.all.now)) (simp length-drop (omega arith)))
    (c.copy_from_slice.ensures.after ∙ ap (λ z. c.args.count ∷ 0 ∷ get_or z 0 0 ∷ get_or z 1 0 ∷ []) c.to_le_bytes-n.ensures)
    c.checksum.ensures
    (c.copy_from_slice-2.ensures.after ∙ c.to_le_bytes-sum.ensures)
