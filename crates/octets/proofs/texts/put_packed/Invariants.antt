use Rattle.std.proofs.Common.{◌≡◌, ◌-◌, ◌++◌, length, take}
use Rattle.octets.specs.Texts.{unpacked}
use Rattle.octets.proofs.texts.put_packed.Given as goal

-- what is left to write gives it
abbrev pub invariant-loop-b : goal.invariant-loop-b
invariant-loop-b l = take l.b-index l.b-items ++ unpacked (length l.fn.field - l.b-index) l.rest ≡ unpacked (length l.fn.field) l.n
