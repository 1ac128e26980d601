use Rattle.std.proofs.Common.{◌≡◌, ◌^◌, ◌<◌, drop}
use Rattle.octets.specs.Digits.{number_after}
use Rattle.octets.specs.Options.{and_then}
use Rattle.script.specs.Words.{fitting}
use Rattle.script.proofs.numbers.read_number.Given as goal

-- what is left of the word gives the answer
abbrev pub invariant-loop-b : goal.invariant-loop-b
invariant-loop-b l = record {
  left : and_then (number_after l.n (drop l.b-index l.word)) fitting ≡ and_then (number_after 0 l.word) fitting;
  small : l.n < 2 ^ 64;
}
