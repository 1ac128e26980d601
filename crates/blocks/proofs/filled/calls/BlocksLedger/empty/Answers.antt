use Rattle.std.proofs.Common.{◌*◌, [], arith}
use Rattle.blocks.specs.Image.{Holds}
use Rattle.blocks.proofs.Images.{front-emptied, holds-whole, filled-whole}
use Rattle.blocks.proofs.filled.calls.BlocksLedger.empty.Goals as goal
use Rattle.blocks.proofs.filled.calls.BlocksLedger.empty.Goals.{After-clear_all}

none : (c : After-clear_all) → Holds c.args.self.now.blocks [] c.clear_all.new.bytes
none c =
    let t = c.args.self.now in
    front-emptied t.blocks (t.blocks * 512) t.bytes.now c.clear_all.new.bytes (omega arith) (omega (arith, t.room)) c.clear_all.ensures.cleared

pub invariant_of-self-clause-held : goal.invariant_of-self-clause-held
invariant_of-self-clause-held c =
    let t = c.args.self.now in
    holds-whole t.blocks (t.blocks * 512) [] t.bytes.now c.clear_all.new.bytes (omega arith) (omega (arith, t.room)) c.clear_all.auto.bytes
    (none (goal.at.invariant_of-self-clause-held c).After-clear_all)

pub returns-clause-memory : goal.returns-clause-memory
returns-clause-memory c =
    let t = c.args.self.now in
    filled-whole t.blocks (t.blocks * 512) [] t.bytes.now c.clear_all.new.bytes (omega arith) (omega (arith, t.room)) c.clear_all.auto.bytes
    (none (goal.at.returns-clause-memory c).After-clear_all)
