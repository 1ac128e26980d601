use Rattle.std.proofs.Common.{rules}
use Rattle.indexed.proofs.Keeping.{stands-keeps}
use Rattle.indexed.proofs.index.Index.has_order.Goals as goal

pub returns : goal.returns
returns c = λ rows tells. let k = stands-keeps c.args.self.now.sections.items c.args.self.now.orders rows in search rules
