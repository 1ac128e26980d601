-- How a group stands: what was traded less what its rows hold. Assumes nothing.
use Rattle.std.specs.Prelude.{ℕ, ◌+◌, ◌-◌, ◌*◌, Bool, true, false, cond, ◌&&◌, List, Some, None, Option, ◌==◌}
use Rattle.std.specs.Option.{option_map}
use Rattle.std.specs.List.{slice_get}
use Rattle.ledger.specs.Rows.{picked, quantity_of, worth_of, held_for}
use Rattle.ledger.specs.declared.row.Entry.{Entry}
use Rattle.ledger.specs.declared.row.Held.{Held}
use Rattle.ledger.specs.declared.row.Pick.{Pick}
use Rattle.lots.specs.Units.{kind_number, shares_in}
use Rattle.lots.specs.declared.units.Kind.{Kind}
use Rattle.lots.specs.declared.units.Kind.TheVariants.{BoardLot, OddLot}
use Rattle.lots.specs.declared.units.UnitSize.{UnitSize}
use Rattle.groups.specs.Sums.{traded_by}
use Rattle.groups.specs.declared.kept.Group.{Group}
use Rattle.groups.specs.declared.kept.Total.{Total}
use Rattle.groups.specs.declared.kept.Traded.{Traded}
use Rattle.judge.specs.declared.heading.Target.{Target}
use Rattle.lines.specs.declared.open.Standing.{Standing}
use Rattle.lines.specs.declared.open.State.{State}
use Rattle.lines.specs.declared.open.State.TheVariants.{Unfinished, Complete, Retained}
use Rattle.lines.specs.declared.open.Survey.{Survey}

-- the shares that a group's rows hold, a trading unit counting as many as the size says, and shares times price
abbrev pub held_shares : ℕ → UnitSize → List Entry → ℕ
held_shares n size rows = quantity_of (picked n (kind_number BoardLot) None) rows * shares_in size + quantity_of (picked n (kind_number OddLot) None) rows

abbrev pub held_worth : ℕ → UnitSize → List Entry → ℕ
held_worth n size rows = worth_of (picked n (kind_number BoardLot) None) rows * shares_in size + worth_of (picked n (kind_number OddLot) None) rows

-- what is open: traded less held
abbrev pub standing_at : List Total → List Entry → ℕ → Group → Standing
standing_at totals rows n g = record {
  retained = g.retained;
  open_shares = record { count = (traded_by n totals).shares.count - held_shares n g.size rows };
  open_amount = record { count = (traded_by n totals).amount.count - held_worth n g.size rows };
}

abbrev pub stands_in : List Group → List Total → List Entry → ℕ → Option Standing
stands_in groups totals rows n = option_map (standing_at totals rows n) (slice_get groups n)

-- the same by what the rows of either kind hold
abbrev pub standing_with : Traded → Group → Held → Held → Standing
standing_with t g board odd = record {
  retained = g.retained;
  open_shares = record { count = t.shares.count - (board.quantity * shares_in g.size + odd.quantity) };
  open_amount = record { count = t.amount.count - (board.amount * shares_in g.size + odd.amount) };
}

-- the rows of a group and kind and, where one is given, of an order type
abbrev pub every : ℕ → Kind → Option ℕ → Pick
every n kind type = record { group = n; kind = kind_number kind; order_type = type }

-- what a filing is judged and entered by: how its group stands, and what the rows of its kind hold, all and those of its type
abbrev pub survey_at : List Total → List Entry → Target → ℕ → Survey
survey_at totals rows t type = record {
  standing = standing_at totals rows t.place.number t.place.group;
  held = held_for (every t.place.number t.kind None) rows;
  of_type = held_for (every t.place.number t.kind (Some type)) rows;
}

-- retained once a retention has taken the group, complete when nothing is open
abbrev pub state_of : Standing → State
state_of s = cond s.retained Retained (cond (s.open_shares.count == 0 && s.open_amount.count == 0) Complete Unfinished)

-- neither complete nor retained
abbrev pub unfinished : Standing → Bool
unfinished s = elim (state_of s) [ Unfinished ↦ true | Complete ↦ false | Retained ↦ false ]
