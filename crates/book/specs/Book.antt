-- A day as its callers see it, and what a call comes to. Assumes nothing.
use Rattle.std.specs.Prelude.{◌≡◌, ℕ, List, [], Ok, Err, Result}
use Rattle.octets.specs.Splice.{spliced}
use Rattle.layout.specs.Layouts.{record_of}
use Rattle.layout.specs.declared.field.Field.{Field}
use Rattle.ledger.specs.Lent.{Lent}
use Rattle.ledger.specs.declared.row.Entry.{Entry}
use Rattle.families.specs.declared.family.Form.{Form}
use Rattle.families.specs.declared.family.Form.TheVariants.{Line, Reply, Row}
use Rattle.families.specs.declared.family.Rules.{Rules}
use Rattle.forms.specs.Replies.{row_says}
use Rattle.forms.specs.declared.contents.Row.{Row as RowContents}
use Rattle.groups.specs.Groups.{heading_at}
use Rattle.groups.specs.declared.kept.Group.{Group}
use Rattle.groups.specs.declared.kept.Total.{Total}
use Rattle.judge.specs.Grounds.{ground_number}
use Rattle.judge.specs.Heading.{opened_on}
use Rattle.judge.specs.declared.grounds.Ground.{Ground}
use Rattle.judge.specs.declared.heading.Opened.{Opened}

-- the layouts and lengths of a family's lines, replies and rows
pub record Records : Type 0 where
  pub line : List Field
  pub reply : List Field
  pub row : List Field
  pub line_length : ℕ
  pub reply_length : ℕ
  pub row_length : ℕ

abbrev pub records_by : (Form → List Field) → (Form → ℕ) → Records
records_by layout extent = record {
  line = layout Line;
  reply = layout Reply;
  row = layout Row;
  line_length = extent Line;
  reply_length = extent Reply;
  row_length = extent Row;
}

-- A day: its family, how it was opened, the next trade number, its groups in order of their number, their totals in order of
-- acceptance, its ledger's rows and capacity, and what of the ledger's memory no call changes.
pub record Book : Type 0 where
  pub rules : Rules
  pub records : Records
  pub opened : Opened
  pub next : ℕ
  pub groups : List Group
  pub totals : List Total
  pub rows : List Entry
  pub capacity : ℕ
  pub lent : Lent

-- a day newly opened on a broker, a date and a first trade number, over a ledger of a capacity and its memory
abbrev pub opened_book : Rules → Records → ℕ → Lent → List ℕ → ℕ → ℕ → Book
opened_book r s capacity lent broker date first = record {
  rules = r;
  records = s;
  opened = opened_on broker date first;
  next = (opened_on broker date first).first;
  groups = [];
  totals = [];
  rows = [];
  capacity = capacity;
  lent = lent;
}

-- what a call answers, the number of the ground where it is refused; the day it leaves; and the replies that it writes
pub record Outcome : Type 0 where
  pub answer : Result ℕ ℕ
  pub book : Book
  pub replies : List ℕ

-- an answer of the code, a refusal by its number
abbrev pub numbered : {A : Type 0} → Result A Ground → Result A ℕ
numbered (Ok n) = Ok n
numbered (Err g) = Err (ground_number g)

-- refused with the number of the ground alone
abbrev pub refused_alone : Book → Ground → Outcome
refused_alone b g = record { answer = Err (ground_number g); book = b; replies = [] }

-- what was accepted came to an outcome; what was refused left the day and the buffer as they were
abbrev pub CameTo : Result ℕ Ground → Outcome → Book → Book → List ℕ → List ℕ → Type 0
CameTo (Ok n) o before after buffer written = (Ok n ≡ o.answer) × ((after ≡ o.book) × (written ≡ spliced buffer 0 o.replies))
CameTo (Err g) o before after buffer written = (after ≡ before) × (written ≡ buffer)

-- an entry of the ledger as a row of the family
abbrev pub row_of : Book → Entry → RowContents
row_of b e = record { heading = heading_at b.opened.broker b.opened.date b.groups e.group; entry = e }

abbrev pub row_bytes : Book → Entry → List ℕ
row_bytes b e = record_of (λ f. row_says (row_of b e) f.item) b.records.row
