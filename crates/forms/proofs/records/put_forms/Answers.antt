use Rattle.std.proofs.Common.{◌≡◌, ◌+◌, length, drop, sym, ap, ◌∙◌, arith}
use Rattle.std.proofs.lemmas.List.{drop_all}
use Rattle.octets.specs.Splice.{spliced}
use Rattle.layout.proofs.Records.{spliced-none}
use Rattle.layout.specs.Layouts.{width_of, record_of}
use Rattle.forms.specs.Records.{records_of}
use Rattle.forms.proofs.Fits.{width-at}
use Rattle.forms.proofs.Rows.{next-is, room_next, one-record}
use Rattle.forms.proofs.records.put_forms.Goals as goal

pub put_record-requires : goal.put_record-requires
put_record-requires g c =
    let next = next-is c.args.contents.now c.loop-c.c-index c.c-item.result c.loop-c-test.true c.c-item.is in
    let room = room_next g.C.Contents.says (g.F.Family.layout c.args.form) c.args.contents.now c.loop-c.c-index c.c-item.result c.loop-c.at (length c.loop-c.buf) next c.loop-c.invariant.1 in
    omega (arith, ap width_of c.fields.ensures, room)

pub overflow_add-at : goal.overflow_add-at
overflow_add-at g c =
    let next = next-is c.args.contents.now c.loop-c.c-index c.c-item.result c.loop-c-test.true c.c-item.is in
    let room = room_next g.C.Contents.says (g.F.Family.layout c.args.form) c.args.contents.now c.loop-c.c-index c.c-item.result c.loop-c.at (length c.loop-c.buf) next c.loop-c.invariant.1 in
    let w = width-at g.F.Family.layout g.F.Family.extent g.met.F.Family.fit c.args.form in
    omega (arith, room, w, c.length-at.ensures)

pub loop-c-preserved : goal.loop-c-preserved
loop-c-preserved g c =
    let says = g.C.Contents.says in
    let fs = g.F.Family.layout c.args.form in
    let cs = c.args.contents.now in
    let i = c.loop-c.c-index in
    let next = next-is cs i c.c-item.result c.loop-c-test.true c.c-item.is in
    let w = width-at g.F.Family.layout g.F.Family.extent g.met.F.Family.fit c.args.form in
    let e : c.length-at.result ≡ width_of fs = c.length-at.ensures ∙ sym w in
    let put = c.put_record.ensures ∙ ap (λ x. spliced c.loop-c.buf c.loop-c.at (record_of (says c.c-item.result) x)) c.fields.ensures in
    let s = one-record says fs cs i c.c-item.result c.loop-c.at c.loop-c.buf c.put_record.new.buf next c.loop-c.invariant.1 put in (
      ap (λ x. spliced c.put_record.new.buf (c.loop-c.at + x) (records_of says fs (drop (i + 1) cs))) e ∙ s.0 ∙ c.loop-c.invariant.0,
      omega (arith, e, s.1),
    )

pub returns : goal.returns
returns g c =
    let inv = rw (drop_all c.loop-c.c-index c.args.contents.now c.loop-c-test.false) at c.loop-c.invariant.0 in
    spliced-none c.loop-c.buf c.loop-c.at ∙ inv
