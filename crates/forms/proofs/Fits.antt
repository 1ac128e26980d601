-- A family's records are tiled by their fields.
use Rattle.std.proofs.Common.{◌≡◌, ℕ, ◌+◌, true, List, ap, ◌∙◌, arith}
use Rattle.std.proofs.lemmas.Bool.{and_parts}
use Rattle.octets.specs.Digits.{number_in}
use Rattle.octets.proofs.Numbers.{number-back}
use Rattle.layout.specs.Values.{bytes_in}
use Rattle.layout.specs.Layouts.{tiles, width_of, ReadsBack}
use Rattle.layout.specs.declared.field.Field.{Field}
use Rattle.layout.proofs.Back.{reads-back}
use Rattle.layout.proofs.Widths.{tiles-width}
use Rattle.families.specs.Families.{tiled}
use Rattle.families.specs.declared.family.Form.{Form}
use Rattle.families.specs.declared.family.Form.TheVariants.{Line, Reply, Row}
use Rattle.forms.specs.Records.{NumbersBack}

pub fit_at : (layout : Form → List Field) (extent : Form → ℕ) → tiled layout extent ≡ true → (form : Form) → tiles 1 (layout form) (extent form + 1) ≡ true
fit_at layout extent h Line = (and_parts _ _ h).0
fit_at layout extent h Reply = (and_parts _ _ (and_parts (tiles 1 (layout Line) (extent Line + 1)) _ h).1).0
fit_at layout extent h Row = (and_parts (tiles 1 (layout Reply) (extent Reply + 1)) _ (and_parts (tiles 1 (layout Line) (extent Line + 1)) _ h).1).1

pub width-at : (layout : Form → List Field) (extent : Form → ℕ) → tiled layout extent ≡ true → (form : Form) → width_of (layout form) ≡ extent form
width-at layout extent h form = omega (arith, tiles-width (layout form) 1 (extent form + 1) (fit_at layout extent h form))

pub back_at : (layout : Form → List Field) (extent : Form → ℕ) → tiled layout extent ≡ true → (form : Form) → ReadsBack (layout form)
back_at layout extent h form = reads-back (layout form) (extent form + 1) (fit_at layout extent h form)

pub numbers-back : (fs : List Field) → ReadsBack fs → NumbersBack fs
numbers-back fs back says i f n e s w l =
    ap number_in (back says i f e ∙ ap (bytes_in f.width) s) ∙ number-back f.width n w l
