-- That a group and kind have one total. Assumes nothing.
use Rattle.std.specs.Prelude.{◌≡◌, ℕ, ◌<◌, Bool, false, ◌&&◌, List, ◌==◌}
use Rattle.std.specs.List.{All, AllPairs}
use Rattle.lots.specs.Units.{kind_number}
use Rattle.lots.specs.declared.units.Kind.{Kind}
use Rattle.groups.specs.declared.kept.Total.{Total}

abbrev pub of_group_and_kind : ℕ → Kind → Total → Bool
of_group_and_kind n kind t = t.group == n && kind_number t.kind == kind_number kind

-- a group and kind have one total: none is of the group and kind of a later one
abbrev pub OneOfEach : List Total → Type 0
OneOfEach ts = AllPairs (λ a b. of_group_and_kind b.group b.kind a ≡ false) ts

-- each total is of one of n groups
abbrev pub OfGroups : ℕ → List Total → Type 0
OfGroups n ts = All (λ t. t.group < n) ts
