use Rattle.std.proofs.Common.{arith}
use Rattle.octets.proofs.Numbers.{pow_room}
use Rattle.octets.proofs.digits.short_number.Goals as goal

pub overflow_mul-n : goal.overflow_mul-n
overflow_mul-n c = omega (arith, pow_room 10 c.loop-b.n c.loop-b.b-index 18 (omega arith) c.loop-b.invariant.1 (omega arith))

pub overflow_add-n : goal.overflow_add-n
overflow_add-n c = omega (arith, pow_room 10 c.loop-b.n c.loop-b.b-index 18 (omega arith) c.loop-b.invariant.1 (omega arith))
