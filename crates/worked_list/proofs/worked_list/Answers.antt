use Rattle.worked_list.proofs.Each.{figures_hold}
use Rattle.worked_list.proofs.worked_list.Goals as goal

pub returns-clause-hold : goal.returns-clause-hold
returns-clause-hold c = figures_hold
