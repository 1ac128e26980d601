use Rattle.std.proofs.Common.{◌+◌, ◌-◌, get_or, drop, ◌∙◌, arith}
use Rattle.std.proofs.lemmas.List.{drop_more, drop_all}
use Rattle.layout.specs.declared.field.Item.TheVariants.{Broker}
use Rattle.layout.proofs.Records.{one_field, spliced-none}
use Rattle.layout.proofs.fill.put_record.Goals as goal

pub loop-f-preserved : goal.loop-f-preserved
loop-f-preserved g c =
    let fs = c.args.fields.now in
    let i = c.loop-f.f-index in
    let pos = c.loop-f.pos in
    let f = get_or fs i (record { item = Broker; first = 0; width = 0 }) in
    let inv = rw (drop_more fs i (record { item = Broker; first = 0; width = 0 }) c.loop-f-test.true) at c.loop-f.invariant in
    let s = one_field (g.C.Contents.says c.args.contents.now) f (drop (i + 1) fs) c.loop-f.buf c.put_value.new.field pos (pos + f.width - pos) _ (omega arith) c.put_value.ensures c.value.ensures inv.1 in
    (s.0 ∙ inv.0, s.1)

pub returns : goal.returns
returns g c =
    let inv = rw (drop_all c.loop-f.f-index c.args.fields.now c.loop-f-test.false) at c.loop-f.invariant in
    spliced-none c.loop-f.buf c.loop-f.pos ∙ inv.0
