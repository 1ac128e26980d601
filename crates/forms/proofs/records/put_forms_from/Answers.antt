use Rattle.std.proofs.Common.{length, ap, ◌∙◌, arith}
use Rattle.octets.specs.Splice.{spliced}
use Rattle.layout.specs.Layouts.{width_of, record_of}
use Rattle.forms.proofs.Fits.{width-at}
use Rattle.forms.proofs.Rows.{length-more, one-more, room-next}
use Rattle.forms.proofs.records.put_forms_from.Goals as goal

pub overflow_add-at : goal.overflow_add-at
overflow_add-at g c =
    let room = room-next g.C.Contents.says (g.F.Family.layout c.args.form) g.I.Iterator.next_gives c.loop-c.yielded c.loop-c.c-iterator c.in-Some.c c.next.new.self c.loop-c.at (length c.args.buf.now) c.requires.room c.into_iter-c-iterator.ensures.into_iter_gives c.loop-c.yielded_by c.in-Some.ensures.steps c.loop-c.invariant.place in
    omega (arith, room, width-at g.F.Family.layout g.F.Family.extent g.met.F.Family.fit c.args.form, c.length-length.ensures, c.loop-c.auto.buf)

pub put_record-requires : goal.put_record-requires
put_record-requires g c =
    let room = room-next g.C.Contents.says (g.F.Family.layout c.args.form) g.I.Iterator.next_gives c.loop-c.yielded c.loop-c.c-iterator c.in-Some.c c.next.new.self c.loop-c.at (length c.args.buf.now) c.requires.room c.into_iter-c-iterator.ensures.into_iter_gives c.loop-c.yielded_by c.in-Some.ensures.steps c.loop-c.invariant.place in
    omega (arith, ap width_of c.fields.ensures, room, c.loop-c.auto.buf)

pub loop-c-preserved : goal.loop-c-preserved
loop-c-preserved g c =
    let says = g.C.Contents.says in
    let fs = g.F.Family.layout c.args.form in
    let put = c.put_record.ensures ∙ ap (λ x. spliced c.loop-c.buf c.loop-c.at (record_of (says c.in-Some.c) x)) c.fields.ensures in
    record {
      memory = one-more says fs c.loop-c.yielded c.in-Some.c c.loop-c.at c.args.buf.now c.loop-c.buf _ c.loop-c.invariant.place c.loop-c.invariant.memory put;
      place = omega (arith, length-more says fs c.loop-c.yielded c.in-Some.c, c.loop-c.invariant.place, c.length-length.ensures, width-at g.F.Family.layout g.F.Family.extent g.met.F.Family.fit c.args.form);
    }
