use Rattle.std.proofs.Common.{◌≡◌, ◌+◌, ◌≤◌, length, drop}
use Rattle.octets.specs.Splice.{spliced}
use Rattle.layout.specs.Layouts.{width_of, record_of}
use Rattle.layout.proofs.fill.put_record.Given as goal

-- what is left to write gives the record, and there is room for it
abbrev pub invariant-loop-f : goal.invariant-loop-f
invariant-loop-f g l =
    (spliced l.buf l.pos (record_of (g.C.Contents.says l.contents) (drop l.f-index l.fields)) ≡ spliced l.initial.buf l.at (record_of (g.C.Contents.says l.contents) l.fields))
    × (l.pos + width_of (drop l.f-index l.fields) ≤ length l.buf)
