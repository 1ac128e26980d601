use Rattle.std.proofs.Common.{◌≡◌, ◌++◌, drop, string_bytes}
use Rattle.yuan.specs.Show.{parted}
use Rattle.yuan.proofs.show.part_in_threes.Given as goal

-- what is written, and what is left of the digits, give the whole
abbrev pub invariant-loop-i : goal.invariant-loop-i
invariant-loop-i l = string_bytes l.text ++ parted (drop l.i l.digits) ≡ parted l.digits
