use Rattle.std.proofs.Common.{◌≡◌, codes, sym, ap, rules, arith}
use Rattle.std.proofs.lemmas.Slice.Eq.{text_from_reads}
use Rattle.script.specs.Calls.{ledger_in}
use Rattle.script.proofs.reading.read_ledger.Goals as goal

pub returns-in-blocks : goal.returns-in-blocks
returns-in-blocks c =
    let is : c.args.word.now ≡ codes "blocks" = text_from_reads c.args.word.now (codes "blocks") (omega arith) (search rules) in
    sym (ap ledger_in is)
