-- Records one behind another, and numbers read back from a record. Assumes nothing.
use Rattle.std.specs.Prelude.{◌≡◌, ℕ, ◌^◌, ◌<◌, ◌≤◌, List, [], ◌∷◌, ◌++◌, Some}
use Rattle.octets.specs.Digits.{number_in}
use Rattle.layout.specs.Values.{Content, number}
use Rattle.layout.specs.Layouts.{field_of, told, record_of}
use Rattle.layout.specs.declared.field.Field.{Field}
use Rattle.layout.specs.declared.field.Item.{Item}

-- the records of several contents
abbrev pub records_of : {C : Type 0} → (C → Field → Content) → List Field → List C → List ℕ
records_of says fs [] = []
records_of says fs (c ∷ cs) = record_of (says c) fs ++ records_of says fs cs

-- a number written into a field of up to 19 digits that it fits is read from it
abbrev pub NumbersBack : List Field → Type 0
NumbersBack fs =
    (says : Field → Content) (i : Item) (f : Field) (n : ℕ) →
    field_of i fs ≡ Some f → says f ≡ number n → f.width ≤ 19 → n < 10 ^ f.width →
    number_in (told fs i (record_of says fs)) ≡ Some n
