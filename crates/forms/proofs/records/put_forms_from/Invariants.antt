use Rattle.std.proofs.Common.{◌≡◌, length}
use Rattle.octets.specs.Splice.{spliced}
use Rattle.forms.specs.Records.{records_of}
use Rattle.forms.proofs.records.put_forms_from.Given as goal

-- the records of what came stand there, and the next place is behind them
abbrev pub invariant-loop-c : goal.invariant-loop-c
invariant-loop-c g l =
    let records = records_of g.C.Contents.says (g.F.Family.layout l.form) l.yielded in
    record {
      memory : l.buf ≡ spliced l.initial.buf 0 records;
      place : l.at ≡ length records;
    }
