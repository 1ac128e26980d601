use Rattle.std.proofs.Common.{◌≡◌, ◌-◌, ◌/◌, ◌^◌, length, drop}
use Rattle.octets.specs.Digits.{digits}
use Rattle.octets.proofs.digits.put_digits.Given as goal

abbrev pub invariant-loop-i : goal.invariant-loop-i
invariant-loop-i l = (drop l.i l.field ≡ digits (length l.fn.field - l.i) l.n) × (l.rest ≡ l.n / 10 ^ (length l.fn.field - l.i))
