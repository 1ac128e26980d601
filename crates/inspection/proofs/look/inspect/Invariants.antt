use Rattle.std.proofs.Common.{◌≡◌, ◌-◌, ◌*◌, ◌≤◌}
use Rattle.blocks.specs.Image.{blocks_in}
use Rattle.inspection.specs.Sound.{leads, found}
use Rattle.inspection.proofs.look.inspect.Given as goal

-- what is left of the blocks gives the answer
abbrev pub invariant-loop-block : goal.invariant-loop-block
invariant-loop-block l =
    (l.front.blocks ≡ l.block-index) × (leads (blocks_in l.bytes - l.front.blocks) l.front.blocks l.front.entries l.bytes ≡ found l.bytes) ×
    (l.front.entries ≤ 7 * l.front.blocks)
