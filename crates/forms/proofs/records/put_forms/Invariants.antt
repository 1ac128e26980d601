use Rattle.std.proofs.Common.{◌≡◌, ◌+◌, ◌≤◌, length, drop}
use Rattle.octets.specs.Splice.{spliced}
use Rattle.forms.specs.Records.{records_of}
use Rattle.forms.proofs.records.put_forms.Given as goal

-- what is left to write gives the records, and there is room for it
abbrev pub invariant-loop-c : goal.invariant-loop-c
invariant-loop-c g l =
    (spliced l.buf l.at (records_of g.C.Contents.says (g.F.Family.layout l.form) (drop l.c-index l.contents)) ≡ spliced l.initial.buf 0 (records_of g.C.Contents.says (g.F.Family.layout l.form) l.contents))
    × (l.at + length (records_of g.C.Contents.says (g.F.Family.layout l.form) (drop l.c-index l.contents)) ≤ length l.buf)
