use Rattle.std.proofs.Common.{eqb, rules, tests}
use Rattle.std.proofs.lemmas.Iterator.{YieldsList-from_slice}
use Rattle.std.proofs.lemmas.Iterator.Search.{position_from_yields_List}
use Rattle.inspection.proofs.Cutting.{sought}
use Rattle.inspection.proofs.look.first_used.Goals as goal

pub returns-clause-value : goal.returns-clause-value
returns-clause-value c =
    sought (λ b. eqb b 0) c.args.bytes.now _
    (position_from_yields_List _ _ _ _ c.position.ensures.ran (YieldsList-from_slice c.args.bytes.now cc) (λ x b q k. search (rules, tests)))
