use Rattle.std.proofs.Common.{◌≡◌, ℕ, ◌<◌, ◌≤◌, []}
use Rattle.blocks.specs.Image.{block, block_at}
use Rattle.blocks.proofs.block.clear_all.Given as goal

-- the blocks from the first one on are empty, and the others as they were
abbrev pub invariant-loop-k : goal.invariant-loop-k
invariant-loop-k l =
    ((k : ℕ) → l.first ≤ k → k < l.k → block_at k l.bytes ≡ block k []) ×
    ((k : ℕ) → k < l.first → block_at k l.bytes ≡ block_at k l.initial.bytes)
