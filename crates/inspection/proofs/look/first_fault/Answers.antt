use Rattle.std.proofs.Common.{◌<◌, cond, ltb, List, [], ℕ, None, Option, sym, refl, ap, ◌∙◌, arith}
use Rattle.std.proofs.lemmas.Bool.{lt-ltb}
use Rattle.blocks.specs.Image.{block_at, blocks_in}
use Rattle.inspection.specs.declared.faults.Fault.{Fault}
use Rattle.inspection.specs.declared.faults.Found.{Found}
use Rattle.inspection.specs.Sound.{fault_in}
use Rattle.inspection.proofs.Cutting.{one-block}
use Rattle.inspection.proofs.look.first_fault.Goals as goal

-- what is told of the block after those that were found
abbrev told : List ℕ → Found → Option Fault
told bytes f = cond (ltb f.blocks (blocks_in bytes)) (fault_in f.blocks f.entries (block_at f.blocks bytes)) None

pub returns : goal.returns
returns c =
    let bytes = c.args.bytes.now in
    let sound = c.inspect-sound.result in
    let k = sound.blocks in
    let got = c.in_ok-block.ensures.lookup.3 in
    let less : k < blocks_in bytes = omega (arith, got.0, c.blocks_of.ensures.count) in
    let is = got.1 [] ∙ one-block (blocks_in bytes) k k bytes c.blocks_of.result.now c.blocks_of.ensures.value less refl in
    c.err.ensures.value ∙
    c.check_block.ensures ∙
    ap (fault_in k sound.entries) is ∙
    ap (λ b. cond b (fault_in k sound.entries (block_at k bytes)) None) (sym (lt-ltb k (blocks_in bytes) less)) ∙
    ap (told bytes) c.inspect-sound.ensures.value
