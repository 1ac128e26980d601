use Rattle.std.proofs.Common.{arith}
use Rattle.std.proofs.Math.Seq.{take-set-lt}
use Rattle.std.proofs.lemmas.List.{get_or-take, length-take-le}
use Rattle.std.proofs.lemmas.Option.{slice_get-get_or}
use Rattle.groups.proofs.kept.GroupTable.retain.Goals as goal

pub returns-then-number-self-clause-groups : goal.returns-then-number-self-clause-groups
returns-then-number-self-clause-groups c = grind (arith, take-set-lt, slice_get-get_or, get_or-take, length-take-le)
