-- The groups that a retention takes, and what becomes of them. Assumes nothing.
use Rattle.std.specs.Prelude.{ℕ, ◌+◌, Bool, false, cond, not, ◌&&◌, ◌||◌, List, [], ◌∷◌, Some, None, filter, ◌==◌, slice_index_or}
use Rattle.std.specs.List.{slice_get}
use Rattle.ledger.specs.declared.row.Entry.{Entry}
use Rattle.lots.specs.Units.{kind_number}
use Rattle.lots.specs.declared.units.Kind.TheVariants.{BoardLot, OddLot}
use Rattle.groups.specs.Groups.{retained}
use Rattle.groups.specs.declared.kept.Group.{Group}
use Rattle.groups.specs.declared.kept.Total.{Total}
use Rattle.lines.specs.Open.{standing_at, unfinished}

-- a retention takes the unfinished groups of its account
abbrev pub taken_at : List Group → List Total → List Entry → ℕ → ℕ → Bool
taken_at groups totals rows account n =
    elim (slice_get groups n) [ Some g ↦ (g.name.account == account) && unfinished (standing_at totals rows n g) | None ↦ false ]

-- the rows that are left: those of the taken groups, of either kind, go
abbrev pub of_either_kind : ℕ → Bool
of_either_kind kind = kind == kind_number BoardLot || kind == kind_number OddLot

abbrev pub goes : (ℕ → Bool) → Entry → Bool
goes taken e = taken e.group && of_either_kind e.kind

abbrev pub rows_left : (ℕ → Bool) → List Entry → List Entry
rows_left taken rows = filter (λ e. not (goes taken e)) rows

-- the groups, the first being of number n, with the taken ones retained
abbrev pub marked : (ℕ → Bool) → ℕ → List Group → List Group
marked taken n [] = []
marked taken n (g ∷ gs) = cond (taken n) (retained g) g ∷ marked taken (n + 1) gs

-- which groups are taken, by a flag for each number
abbrev pub flagged : List Bool → ℕ → Bool
flagged flags n = slice_index_or flags n false
