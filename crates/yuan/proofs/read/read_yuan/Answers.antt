use Rattle.std.proofs.Common.{rules}
use Rattle.yuan.proofs.Back.{yuan_back_at}
use Rattle.yuan.proofs.read.read_yuan.Goals as goal

pub returns-in_err-whole-clause-back : goal.returns-in_err-whole-clause-back
returns-in_err-whole-clause-back c = yuan_back_at c.args.word.now _ (search rules)

pub returns-then-whole-gt-MOST_YUAN-clause-back : goal.returns-then-whole-gt-MOST_YUAN-clause-back
returns-then-whole-gt-MOST_YUAN-clause-back c = yuan_back_at c.args.word.now _ (search rules)

pub returns-in_err-part-clause-back : goal.returns-in_err-part-clause-back
returns-in_err-part-clause-back c = yuan_back_at c.args.word.now _ (search rules)

pub returns-clause-back : goal.returns-clause-back
returns-clause-back c = yuan_back_at c.args.word.now _ (search rules)
