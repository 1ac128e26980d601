use Rattle.std.proofs.Common.{◌≡◌, ◌+◌, ◌*◌, ◌≤◌, drop}
use Rattle.blocks.specs.Image.{weighed}
use Rattle.blocks.proofs.block.checksum.Given as goal

abbrev pub invariant-loop-i : goal.invariant-loop-i
invariant-loop-i l = (l.sum + weighed (l.i + 1) (drop l.i l.bytes) ≡ weighed 1 l.bytes) × (l.sum ≤ 129540 * l.i)
