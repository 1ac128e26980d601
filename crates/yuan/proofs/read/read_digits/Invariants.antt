use Rattle.std.proofs.Common.{◌≡◌, ◌^◌, ◌<◌, drop}
use Rattle.yuan.specs.Read.{digits}
use Rattle.yuan.proofs.read.read_digits.Given as goal

-- what is left of the word gives the answer, and the number so far has no more digits than were read
abbrev pub invariant-loop-i : goal.invariant-loop-i
invariant-loop-i l = (digits l.parted l.n (drop l.i l.word) ≡ digits l.parted 0 l.word) × (l.n < 10 ^ l.i)
