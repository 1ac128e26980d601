use Rattle.std.proofs.Common.{rules}
use Rattle.yuan.proofs.Back.{number_back_at}
use Rattle.yuan.proofs.read.read_number.Goals as goal

pub returns-then-is_empty-clause-back : goal.returns-then-is_empty-clause-back
returns-then-is_empty-clause-back c = number_back_at c.args.word.now _ (search rules)

pub returns-clause-back : goal.returns-clause-back
returns-clause-back c = number_back_at c.args.word.now _ (search rules)

pub returns-in-Some-clause-back : goal.returns-in-Some-clause-back
returns-in-Some-clause-back c = number_back_at c.args.word.now _ (search rules)
