use Rattle.std.proofs.Common.{◌≡◌, codes, sym, ap, rules, arith}
use Rattle.std.proofs.lemmas.Slice.Eq.{text_from_reads}
use Rattle.script.specs.Calls.{family_in}
use Rattle.script.proofs.reading.read_family.Goals as goal

pub returns-in-omnibus : goal.returns-in-omnibus
returns-in-omnibus c =
    let is : c.args.word.now ≡ codes "omnibus" = text_from_reads c.args.word.now (codes "omnibus") (omega arith) (search rules) in
    sym (ap family_in is)
