use Rattle.std.proofs.Common.{◌≡◌, ◌^◌, ◌<◌, drop}
use Rattle.octets.specs.Digits.{number_after}
use Rattle.octets.proofs.digits.short_number.Given as goal

abbrev pub invariant-loop-b : goal.invariant-loop-b
invariant-loop-b l = (number_after l.n (drop l.b-index l.part) ≡ number_after 0 l.part) × (l.n < 10 ^ l.b-index)
