use Rattle.std.proofs.Common.{◌≡◌, ℕ, ◌*◌, [], length, replicate, refl, sym, ap, ◌∙◌, subst, ⊎_elim, arith}
use Rattle.std.proofs.lemmas.Bool.{cases_eq}
use Rattle.blocks.specs.Image.{block, block_at, written}
use Rattle.blocks.proofs.Holding.{block_here, block-other, length-block}
use Rattle.blocks.proofs.Laying.{block-from, body-nil}
use Rattle.blocks.proofs.block.clear_all.Goals as goal

pub loop-k-preserved : goal.loop-k-preserved
loop-k-preserved c =
    let b = c.loop-k.k in
    let bytes = c.loop-k.bytes in
    let after = c.write.new.bytes in
    let inv = c.loop-k.invariant in
    let is : after ≡ written b (block b []) bytes = c.write.ensures ∙ ap (λ z. written b z bytes) (block-from b 0 [] (replicate 504 0) refl (sym body-nil)) in
    let size : length (block b []) ≡ 512 = length-block b [] (omega arith) in
    let other : (k : ℕ) → (k ≡ b → ⊥) → block_at k after ≡ block_at k bytes = (λ k ne. ap (block_at k) is ∙ block-other k b (512 * b) 512 bytes (block b []) refl refl size (omega arith) ne) in (
      (λ k l m. ⊎_elim
          (λ e. subst (λ z. block_at z after ≡ block z []) (sym e) (ap (block_at b) is ∙ block_here b (512 * b) 512 bytes (block b []) refl size (omega arith)))
          (λ ne. other k ne ∙ inv.0 k l (omega arith)) (cases_eq k b)),
      (λ k l. other k (omega arith) ∙ inv.1 k l),
    )
