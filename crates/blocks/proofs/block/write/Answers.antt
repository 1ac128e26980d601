use Rattle.std.proofs.Common.{◌≡◌, ◌+◌, ◌-◌, ◌*◌, arith}
use borrow.Rule.Slice.PartMut.{put_mid}
use Rattle.blocks.proofs.block.write.Goals as goal

pub returns : goal.returns
returns c =
    let k = c.args.k in
    let from : k * 512 ≡ 512 * k = omega arith in
    let wide : k * 512 + 512 - k * 512 ≡ 512 = omega arith in
    λ i. put_mid (from i) (wide i) c.args.bytes.now (c.fill.ensures i)
