use Rattle.std.proofs.Common.{ap, ◌∙◌}
use Rattle.octets.specs.Digits.{number_in}
use Rattle.forms.proofs.Fits.{back_at, numbers-back}
use Rattle.forms.proofs.records.number.Goals as goal

pub returns : goal.returns
returns g c = record {
  value = c.read_digits.ensures.value ∙ ap number_in c.field.ensures;
  back = numbers-back (g.F.Family.layout c.args.form) (back_at g.F.Family.layout g.F.Family.extent g.met.F.Family.fit c.args.form);
}
