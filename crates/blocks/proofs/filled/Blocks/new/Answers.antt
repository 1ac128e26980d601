use Rattle.std.proofs.Common.{◌≡◌, ◌*◌, ◌≤◌, [], ◌++◌, length, drop, subst, arith}
use Rattle.blocks.specs.Image.{Holds, filled}
use Rattle.blocks.proofs.Images.{front-emptied, holds-whole, filled-whole}
use Rattle.blocks.proofs.filled.Blocks.new.Goals as goal
use Rattle.blocks.proofs.filled.Blocks.new.Goals.{After-clear_all}

room : (c : After-clear_all) → c.blocks_in-blocks.result * 512 ≤ length c.args.bytes.now
room c = omega (arith, c.blocks_in-blocks.ensures)

none : (c : After-clear_all) → Holds c.blocks_in-blocks.result [] c.clear_all.new.bytes
none c = front-emptied c.blocks_in-blocks.result (c.blocks_in-blocks.result * 512) c.args.bytes.now c.clear_all.new.bytes (omega arith) (room c) c.clear_all.ensures.cleared

pub invariant_of-result-clause-held : goal.invariant_of-result-clause-held
invariant_of-result-clause-held c =
    let d = (goal.at.invariant_of-result-clause-held c).After-clear_all in
    holds-whole c.blocks_in-blocks.result (c.blocks_in-blocks.result * 512) [] c.args.bytes.now c.clear_all.new.bytes (omega arith) (room d) c.clear_all.auto.bytes (none d)

pub returns-clause-memory : goal.returns-clause-memory
returns-clause-memory c =
    let d = (goal.at.returns-clause-memory c).After-clear_all in
    let n = c.blocks_in-blocks.result in
    let lent = c.args.bytes.now in
    subst (λ n. c.clear_all.new.bytes ++ drop (c.blocks_in-blocks.result * 512) lent ≡ filled n [] lent) c.blocks_in-blocks.ensures
    (filled-whole n (n * 512) [] lent c.clear_all.new.bytes (omega arith) (room d) c.clear_all.auto.bytes (none d))
