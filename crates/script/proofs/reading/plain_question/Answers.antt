use Rattle.std.proofs.Common.{◌≡◌, codes, sym, ap, rules, arith}
use Rattle.std.proofs.lemmas.Slice.Eq.{text_from_reads}
use Rattle.script.specs.Calls.{plain_question}
use Rattle.script.proofs.reading.plain_question.Goals as goal

pub returns-in-verdict : goal.returns-in-verdict
returns-in-verdict c = ap plain_question (sym (text_from_reads c.args.name.now (codes "verdict") (omega arith) (search rules)))
