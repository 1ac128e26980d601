-- What a filing enters. Assumes nothing.
use Rattle.std.specs.Prelude.{All, ◌≡◌, ℕ, ◌+◌, ◌*◌, ◌^◌, ◌<◌, ◌≤◌, Bool, cond, List, length, Some, None, Option}
use Rattle.ledger.specs.Rows.{held_for}
use Rattle.ledger.specs.declared.row.Entry.{Entry}
use Rattle.ledger.specs.declared.row.Held.{Held}
use Rattle.judge.specs.Wanted.{pieces_wanted}
use Rattle.judge.specs.declared.terms.Wanted.{Wanted}
use Rattle.layout.specs.declared.field.Field.{Field}
use Rattle.lines.specs.Entries.{each_of, row_worth, entries_from, Room}
use Rattle.lines.specs.Open.{every}
use Rattle.lines.specs.PieceReplies.{piece_replies}
use Rattle.lines.specs.declared.entries.Before.{Before}
use Rattle.lines.specs.declared.entries.Entering.{Entering}
use Rattle.lines.specs.declared.open.Survey.{Survey}

-- what the rows of the group and kind hold and, where one is given, of an order type
abbrev pub held_in : List Entry → Entering → Option ℕ → Held
held_in rows e type = held_for (every e.group e.lot.kind type) rows

abbrev pub type_of : Entering → Option ℕ
type_of e = Some e.order_type

-- running figures go on from what is held
abbrev pub before_by : Entering → Held → Held → ℕ → Before
before_by e held of_type next = record {
  trade_number = next;
  quantity = held.quantity;
  amount = held.amount * each_of e;
  type_quantity = cond e.by_type of_type.quantity 0;
  type_amount = cond e.by_type (of_type.amount * each_of e) 0;
}

abbrev pub before_in : List Entry → Entering → ℕ → Before
before_in rows e next = before_by e (held_in rows e None) (held_in rows e (type_of e)) next

-- what is held fits an entry's figures
pub record HoldsFit (e : Entering) (held of_type : Held) : Type 0 where
  pub quantity : held.quantity < 2 ^ 32
  pub amount : held.amount * each_of e < 2 ^ 64
  pub type_quantity : of_type.quantity < 2 ^ 32
  pub type_amount : of_type.amount * each_of e < 2 ^ 64

-- a survey tells what the rows hold
pub record AreHeld (rows : List Entry) (e : Entering) (s : Survey) : Type 0 where
  pub held : s.held ≡ held_in rows e None
  pub of_type : s.of_type ≡ held_in rows e (type_of e)

-- the entries that a filing makes
abbrev pub entries_in : List Entry → Entering → ℕ → Wanted → List Entry
entries_in rows e next w = entries_from e (before_in rows e next) (pieces_wanted w)

-- There is room for a filing: its figures and those that the rows hold fit an entry's, it has at most 22 pieces, and ledger and
-- buffer have room for its entries and replies.
pub record Fits (rows : List Entry) (capacity : ℕ) (e : Entering) (w : Wanted) (next : ℕ) (fs : List Field) (line : List ℕ) (completes : Bool) (space : ℕ) : Type 0 where
  pub held : HoldsFit e (held_in rows e None) (held_in rows e (type_of e))
  pub figures : Room e (before_in rows e next) (pieces_wanted w)
  pub few : length (pieces_wanted w) ≤ 22
  pub places : length rows + length (entries_in rows e next w) ≤ capacity
  pub worths : All (λ x. row_worth (each_of e) x < 2 ^ 64) (entries_in rows e next w)
  pub replies : length (piece_replies fs line (each_of e) completes (entries_in rows e next w)) ≤ space
