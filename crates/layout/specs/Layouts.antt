-- Layouts: how the fields of a record are read and written. Assumes nothing.
use Rattle.std.specs.Prelude.{◌≡◌, ℕ, ◌+◌, ◌-◌, Bool, ◌&&◌, List, [], ◌∷◌, ◌++◌, take, drop, Some, None, Option, ◌==◌}
use Rattle.std.specs.List.{find}
use Rattle.layout.specs.Items.{same_item}
use Rattle.layout.specs.Values.{Content, bytes_in}
use Rattle.layout.specs.declared.field.Item.{Item}
use Rattle.layout.specs.declared.field.Field.{Field}

-- the bytes of a record at a field's place, which counts from 1
abbrev pub part_of : Field → List ℕ → List ℕ
part_of f r = take f.width (drop (f.first - 1) r)

-- the field that tells an item
abbrev pub field_of : Item → List Field → Option Field
field_of i fs = find (λ f. same_item f.item i) fs

-- what a record tells of an item; nothing where its layout has no such field
abbrev pub told : List Field → Item → List ℕ → List ℕ
told fs i r = elim (field_of i fs) [ Some f ↦ part_of f r | None ↦ [] ]

abbrev pub width_of : List Field → ℕ
width_of [] = 0
width_of (f ∷ fs) = f.width + width_of fs

-- the record in which each field holds what `says` gives it
abbrev pub record_of : (Field → Content) → List Field → List ℕ
record_of says [] = []
record_of says (f ∷ fs) = bytes_in f.width (says f) ++ record_of says fs

-- the fields stand one behind another from byte k on and end before byte n
abbrev pub tiles : ℕ → List Field → ℕ → Bool
tiles k [] n = k == n
tiles k (f ∷ fs) n = f.first == k && tiles (k + f.width) fs n

-- what is written into a layout's fields is read from them
abbrev pub ReadsBack : List Field → Type 0
ReadsBack fs = (says : Field → Content) (i : Item) (f : Field) → field_of i fs ≡ Some f → told fs i (record_of says fs) ≡ bytes_in f.width (says f)
