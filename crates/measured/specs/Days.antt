-- What comes of a day that is measured. Assumes nothing.
use Rattle.std.specs.Prelude.{◌≡◌, ℕ, ◌+◌, ◌*◌, ◌/◌, ◌%◌, ◌^◌, ◌⊎◌, zero, suc, cond, List, [], length, fold, min, is_ok, Some, None, Option, Result, ◌==◌}
use Rattle.std.specs.List.{slice_get}
use Rattle.std.specs.Simd.{first_chunks}
use Rattle.octets.specs.Splice.{spliced}
use Rattle.lots.specs.declared.units.Shares.{Shares}
use Rattle.lots.specs.declared.units.Cents.{Cents}
use Rattle.layout.specs.declared.field.Field.{Field}
use Rattle.families.specs.Families.{plan_rules, plan_layout, plan_length, omnibus_rules, omnibus_layout, omnibus_length}
use Rattle.families.specs.Parts.{group_told}
use Rattle.families.specs.Tables.{total_row}
use Rattle.families.specs.declared.family.Form.{Form}
use Rattle.families.specs.declared.family.Rules.{Rules}
use Rattle.ledger.specs.Lent.{Lent}
use Rattle.lines.specs.declared.open.State.{State}
use Rattle.book.specs.Book.{Book, records_by, opened_book}
use Rattle.book.specs.Lines.{line_outcome}
use Rattle.book.specs.Totals.{total_row_outcome}
use Rattle.book.specs.Questions.{figures_answer, verdict_answer}
use Rattle.measured.specs.declared.setup.Setup.{Setup}
use Rattle.measured.specs.declared.setup.Came.{Came}
use Rattle.measured.specs.declared.setup.Given.{Given as HostGiven}

-- a day, the buffer for its replies, and how many of the calls so far were accepted
pub record Stand : Type 0 where
  pub book : Book
  pub buffer : List ℕ
  pub accepted : ℕ

abbrev pub stand : Book → List ℕ → ℕ → Stand
stand b buffer n = record { book = b; buffer = buffer; accepted = n }

-- one more where a call is accepted
abbrev pub counted : ℕ → Result ℕ ℕ → ℕ
counted n answer = n + cond (is_ok answer) 1 0

-- a row of totals more, with the shares in a trading unit
abbrev pub with_total : ℕ → Stand → List ℕ → Stand
with_total unit s total =
    let o = total_row_outcome s.book total unit in
    stand o.book s.buffer (counted s.accepted o.answer)

-- a line more, at a clock
abbrev pub with_line : ℕ → Stand → List ℕ → Stand
with_line clock s line =
    let o = line_outcome s.book line clock (length s.buffer) in
    stand o.book (spliced s.buffer 0 o.replies) (counted s.accepted o.answer)

-- bytes as records of a width, one behind another
abbrev pub records_of : ℕ → List ℕ → List (List ℕ)
records_of width bytes = first_chunks width (length bytes / width) bytes

abbrev pub after_totals : Book → Setup → List ℕ → Stand
after_totals b s totals = fold (with_total s.unit) (stand b [] 0) (records_of 80 totals)

abbrev pub after_lines : Book → List ℕ → Setup → List ℕ → Stand
after_lines b buffer s lines = fold (with_line s.clock) (stand b buffer 0) (records_of 200 lines)

-- the open shares that are told, if any are
abbrev pub shares_told : Option (Shares × Cents × State) → ℕ
shares_told (Some figures) = figures.0.count
shares_told None = 0

-- the open shares of a total's group
abbrev pub open_shares : Book → List ℕ → ℕ
open_shares b total = shares_told (figures_answer b (group_told total_row total))

-- the sum of so many equal numbers, in 64 bits
abbrev pub repeated : ℕ → ℕ → ℕ
repeated times n = (times * n) % 2 ^ 64

-- asked for the group of the first total, if there is one
abbrev pub first_open : Book → ℕ → List (List ℕ) → ℕ
first_open b times totals = elim (slice_get totals 0) [ Some total ↦ repeated times (open_shares b total) | None ↦ 0 ]

-- what a host gives: how the day is opened and asked, its broker, rows of totals, lines before those that are measured, and those
pub record Given : Type 0 where
  pub setup : Setup
  pub broker : List ℕ
  pub totals : List ℕ
  pub earlier : List ℕ
  pub lines : List ℕ

abbrev pub given : Setup → List ℕ → List ℕ → List ℕ → List ℕ → Given
given s broker totals earlier lines = record { setup = s; broker = broker; totals = totals; earlier = earlier; lines = lines }

abbrev pub given_by : HostGiven → Given
given_by h = given h.setup h.broker.now h.totals.now h.earlier.now h.lines.now

abbrev pub earlier_stand : Book → Given → List ℕ → Stand
earlier_stand b g buffer = after_lines (after_totals b g.setup g.totals).book buffer g.setup g.earlier

abbrev pub last_stand : Book → Given → List ℕ → Stand
last_stand b g buffer = after_lines (earlier_stand b g buffer).book (earlier_stand b g buffer).buffer g.setup g.lines

abbrev pub came_of : Book → Given → List ℕ → Came
came_of b g buffer = record {
  opened = 1;
  totals = (after_totals b g.setup g.totals).accepted;
  earlier = (earlier_stand b g buffer).accepted;
  lines = (last_stand b g buffer).accepted;
  rows = length (last_stand b g buffer).book.rows;
  figures = first_open (last_stand b g buffer).book g.setup.figures (records_of 80 g.totals);
  verdicts = repeated g.setup.verdicts (verdict_answer (last_stand b g buffer).book);
}

-- what comes of a day that was opened, and what the buffer for its replies then holds
abbrev pub IsMeasured : Book → Given → List ℕ → Came → List ℕ → Type 0
IsMeasured b g buffer came written = (came ≡ came_of b g buffer) × (written ≡ (last_stand b g buffer).buffer)

-- for a family, over a ledger of a capacity, whatever its memory
abbrev pub IsMeasuredIn : Rules → (Form → List Field) → (Form → ℕ) → ℕ → Given → List ℕ → Came → List ℕ → Type 0
IsMeasuredIn rules layout extent room g buffer came written =
    (lent : Lent) × IsMeasured (opened_book rules (records_by layout extent) room lent g.broker g.setup.date g.setup.first) g buffer came written

-- seven places in each of at most 1,142 blocks, or those of a table
abbrev pub places : Setup → ℕ
places s = cond (s.ledger % 2 == 1) (7 * min 1142 (s.size / 512)) s.size

abbrev pub IsMeasuredFor : Rules → (Form → List Field) → (Form → ℕ) → Given → List ℕ → Came → List ℕ → Type 0
IsMeasuredFor rules layout extent g buffer came written = IsMeasuredIn rules layout extent (places g.setup) g buffer came written

-- for a plan, and for an omnibus account
abbrev pub IsMeasuredByNumber : ℕ → Given → List ℕ → Came → List ℕ → Type 0
IsMeasuredByNumber zero = IsMeasuredFor plan_rules plan_layout plan_length
IsMeasuredByNumber (suc n) = IsMeasuredFor omnibus_rules omnibus_layout omnibus_length

-- there was no memory for the ledger
abbrev pub nothing : Came
nothing = record { opened = 0; totals = 0; earlier = 0; lines = 0; rows = 0; figures = 0; verdicts = 0 }

-- nothing is done, or a day of the family is measured
abbrev pub IsTold : Given → List ℕ → Came → List ℕ → Type 0
IsTold g buffer came written = ((came ≡ nothing) × (written ≡ buffer)) ⊎ IsMeasuredByNumber g.setup.family g buffer came written
