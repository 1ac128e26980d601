use Rattle.std.proofs.Common.{rules}
use Rattle.lots.proofs.Exactly.{lawful_at}
use Rattle.lots.proofs.runs.split.Goals as goal

pub returns-then-quantity-eq0-clause-law : goal.returns-then-quantity-eq0-clause-law
returns-then-quantity-eq0-clause-law c = lawful_at _ _ _ _ (search rules)

pub returns-then-rest-eq0-clause-law : goal.returns-then-rest-eq0-clause-law
returns-then-rest-eq0-clause-law c = lawful_at _ _ _ _ (search rules)

pub returns-clause-law : goal.returns-clause-law
returns-clause-law c = lawful_at _ _ _ _ (search rules)
