-- The law of sums: no share and no cent goes astray, after any list of calls. Assumes nothing.
use Rattle.std.specs.Prelude.{◌≡◌, ◌≢◌, ◌↔◌, ℕ, ◌+◌, List, ◌∷◌, ◌++◌, map, Some, None, Ok, MatchOption}
use Rattle.std.specs.List.{slice_get, AllPairs}
use Rattle.lots.specs.declared.units.Cents.{Cents}
use Rattle.lots.specs.declared.units.Shares.{Shares}
use Rattle.ledger.specs.declared.row.Entry.{Entry}
use Rattle.families.specs.Parts.{GroupParts}
use Rattle.forms.specs.Totals.{group_in}
use Rattle.forms.specs.declared.contents.GroupName.{GroupName}
use Rattle.lines.specs.declared.open.State.{State}
use Rattle.lines.specs.declared.open.State.TheVariants.{Complete}
use Rattle.book.specs.Answered.{Answered, trade_number}
use Rattle.book.specs.Held.{shares_held, worth_held, Runs}
use Rattle.book.specs.Book.{Book, row_bytes}
use Rattle.book.specs.Calls.{Call, run}
use Rattle.book.specs.Heard.{heard, tallied, pieces_heard}
use Rattle.book.specs.Tally.{Tally, nothing, unit_of, traded_shares, traded_amount, filed_shares, filed_amount}
use Rattle.book.specs.Questions.{figures_answer}

-- the rows of a group hold what its filings in the tally come to
pub record Held (t : Tally) (rows : List Entry) (n : ℕ) (name : GroupName) : Type 0 where
  pub shares : shares_held n (unit_of name t.totals) rows ≡ filed_shares name t.filings
  pub amount : worth_held n (unit_of name t.totals) rows ≡ filed_amount name t.filings

-- what its rows hold and what is told to be open add up to its totals in the tally; it is told complete exactly when
-- nothing is open
pub record Open (t : Tally) (rows : List Entry) (n : ℕ) (name : GroupName) (told : Shares × Cents × State) : Type 0 where
  pub shares : shares_held n (unit_of name t.totals) rows + told.0.count ≡ traded_shares name t.totals
  pub amount : worth_held n (unit_of name t.totals) rows + told.1.count ≡ traded_amount name t.totals
  pub complete : (told.2 ≡ Complete) ↔ ((told.0.count ≡ 0) × (told.1.count ≡ 0))

-- the shares in a trading unit of group n
abbrev pub unit_at : Tally → ℕ → ℕ
unit_at t n = elim (slice_get t.groups n) [ Some name ↦ unit_of name t.totals | None ↦ 0 ]

-- the law, for a day, the tally of all that was heard of it, and the pieces answered; no row stands outside the tally's groups
pub record Sums (b : Book) (t : Tally) (pieces : List (List ℕ)) : Type 0 where
  pub held : (n : ℕ) (name : GroupName) → slice_get t.groups n ≡ Some name → Held t b.rows n name
  pub open_told : (g : GroupParts) (n : ℕ) (name : GroupName) → group_in b.rules g ≡ Ok name → slice_get t.groups n ≡ Some name → MatchOption (figures_answer b g) ⊥ (Open t b.rows n name)
  pub placed : (before : List Entry) (e : Entry) (behind : List Entry) → b.rows ≡ before ++ e ∷ behind → (name : GroupName) × (slice_get t.groups e.group ≡ Some name)
  pub answered : (before : List Entry) (e : Entry) (behind : List Entry) → b.rows ≡ before ++ e ∷ behind → Answered b.records pieces (row_bytes b e)
  pub numbers : AllPairs (λ x y. x ≢ y) (map (trade_number b.records) pieces)
  pub running : (before : List Entry) (e : Entry) (behind : List Entry) → b.rows ≡ before ++ e ∷ behind → Runs (unit_at t e.group) before e

-- after any calls of a newly opened day
abbrev pub Balanced : Book → List Call → Type 0
Balanced b calls = Sums (run b calls) (tallied b.rules b.records nothing (heard b calls)) (pieces_heard b.records b.rules.retains (heard b calls))
