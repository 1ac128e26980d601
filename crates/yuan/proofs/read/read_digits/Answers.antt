use Rattle.std.proofs.Common.{◌^◌, ◌≤◌, arith}
use native.Mathlib.Nat.{pow-le-pow_right}
use Rattle.yuan.proofs.read.read_digits.Goals as goal

pub read_character-requires : goal.read_character-requires
read_character-requires c =
    let least : 10 ^ c.loop-i.i ≤ 10 ^ 18 = pow-le-pow_right (omega arith) {j = 18} (omega arith) in
    omega (arith, c.loop-i.invariant.1)
