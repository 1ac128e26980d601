use Rattle.std.proofs.Common.{◌*◌, ap, ◌∙◌, arith}
use Rattle.octets.specs.Splice.{spliced}
use Rattle.layout.specs.Layouts.{width_of, record_of}
use Rattle.forms.proofs.Fits.{width-at, back_at}
use Rattle.forms.proofs.records.put_form.Goals as goal

pub put_record-requires : goal.put_record-requires
put_record-requires g c =
    let w = ap width_of c.fields.ensures ∙ width-at g.F.Family.layout g.F.Family.extent g.met.F.Family.fit c.args.form in
    let m = ap (λ x. c.args.k * x) c.length.ensures in
    omega (arith, w, m)

pub returns : goal.returns
returns g c = record {
  memory =
      c.put_record.ensures
      ∙ ap (λ x. spliced c.args.buf.now (c.args.k * x) (record_of (g.C.Contents.says c.args.contents.now) c.fields.result.now)) c.length.ensures
      ∙ ap (λ fs. spliced c.args.buf.now (c.args.k * g.F.Family.extent c.args.form) (record_of (g.C.Contents.says c.args.contents.now) fs)) c.fields.ensures;
  back = back_at g.F.Family.layout g.F.Family.extent g.met.F.Family.fit c.args.form;
}
