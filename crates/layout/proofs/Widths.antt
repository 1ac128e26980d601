-- Fields that tile a record are as wide as it is.
use Rattle.std.proofs.Common.{◌≡◌, ℕ, ◌+◌, true, eqb, List, [], ◌∷◌, length, arith, length-append}
use Rattle.std.proofs.lemmas.Bool.{eqb-true, and_parts}
use Rattle.layout.specs.Values.{Content, bytes_in}
use Rattle.layout.specs.Layouts.{tiles, width_of, record_of}
use Rattle.layout.specs.declared.field.Field.{Field}
use Rattle.layout.proofs.Records.{length-bytes_in}

pub tiles-width : (fs : List Field) (k n : ℕ) → tiles k fs n ≡ true → k + width_of fs ≡ n
tiles-width [] k n t = omega (arith, eqb-true k n t)
tiles-width (f ∷ fs) k n t =
    let t2 = and_parts (eqb f.first k) (tiles (k + f.width) fs n) t in
    omega (arith, tiles-width fs (k + f.width) n t2.1)

pub length-record : (says : Field → Content) (fs : List Field) → length (record_of says fs) ≡ width_of fs
length-record says [] = omega arith
length-record says (f ∷ fs) = omega (arith, length-append (bytes_in f.width (says f)) (record_of says fs), length-bytes_in f.width (says f), length-record says fs)
