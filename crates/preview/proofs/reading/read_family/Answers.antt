use Rattle.std.proofs.Common.{codes, sym, ap, arith}
use Rattle.std.proofs.lemmas.Slice.Eq.{text_from_reads}
use Rattle.preview.specs.Words.{family_of}
use Rattle.preview.proofs.reading.read_family.Goals as goal

pub returns-in-omnibus : goal.returns-in-omnibus
returns-in-omnibus c =
    sym (ap family_of (text_from_reads c.args.word.now (codes "omnibus") (omega arith) (omega arith, (omega arith, (omega arith, (omega arith, (omega arith, (omega arith, (omega arith, tt)))))))))
