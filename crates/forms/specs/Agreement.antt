-- When two records say the same. Assumes nothing.
use Rattle.std.specs.Prelude.{◌≡◌, ◌≢◌, ℕ, List, Some}
use Rattle.layout.specs.Layouts.{told, field_of}
use Rattle.layout.specs.declared.field.Field.{Field}
use Rattle.layout.specs.declared.field.Item.{Item}
use Rattle.layout.specs.declared.field.Item.TheVariants.{Filler}

-- two records agree in every item that both tell
abbrev pub Agree : List Field → List ℕ → List Field → List ℕ → Type 0
Agree fs a gs b = (i : Item) (f g : Field) → (i ≢ Filler) → field_of i fs ≡ Some f → field_of i gs ≡ Some g → told fs i a ≡ told gs i b
