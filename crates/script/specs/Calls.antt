-- The call that a line makes, by its words. Assumes nothing.
use Rattle.std.specs.Prelude.{ℕ, Bool, ◌&&◌, List, [], length, unwrap_or, Some, None, Option, codes, if◌then◌else◌, ◌==◌, nat_lt}
use Rattle.std.specs.Str.{bytes_eq}
use Rattle.std.specs.Option.{option_or}
use Rattle.octets.specs.Options.{and_then}
use Rattle.script.specs.Words.{words_of, word_at, number_in, bytes_in}
use Rattle.script.specs.declared.calls.FamilyName.{FamilyName}
use Rattle.script.specs.declared.calls.FamilyName.TheVariants.{Plan, Omnibus}
use Rattle.script.specs.declared.calls.LedgerName.{LedgerName}
use Rattle.script.specs.declared.calls.LedgerName.TheVariants.{Table, Blocks}
use Rattle.script.specs.Groups.{group_of}
use Rattle.script.specs.declared.calls.GroupWords.{GroupWords}
use Rattle.script.specs.declared.calls.Call.{Call}
use Rattle.script.specs.declared.calls.Call.TheVariants.{Open, Total, Cai, Line, Begin, End, Figures, Verdict, Row, Rows, Image, Inspect, Split}

infixl 10 ◌>>=◌
abbrev pub ◌>>=◌ : {A B : Type 0} → Option A → (A → Option B) → Option B
o >>= f = and_then o f

-- word k of a line, as bytes, as a number, as a number below 256, as the name of a family or of a ledger
abbrev pub bytes_at : List ℕ → ℕ → Option (List ℕ)
bytes_at line k = word_at line k >>= bytes_in

abbrev pub number_at : List ℕ → ℕ → Option ℕ
number_at line k = word_at line k >>= number_in

abbrev pub small_at : List ℕ → ℕ → Option ℕ
small_at line k = number_at line k >>= λ n. if nat_lt n 256 then Some n else None

abbrev pub family_in : List ℕ → Option FamilyName
family_in word =
    if bytes_eq word (codes "plan") then Some Plan else (if bytes_eq word (codes "omnibus") then Some Omnibus else None)

abbrev pub ledger_in : List ℕ → Option LedgerName
ledger_in word =
    if bytes_eq word (codes "table") then Some Table else (if bytes_eq word (codes "blocks") then Some Blocks else None)

-- words 1 to 3 of a line, as the name of a group
abbrev pub group_at : List ℕ → Option GroupWords
group_at line = do
  account ← bytes_at line 1
  security ← bytes_at line 2
  side ← bytes_at line 3
  Some (group_of account security side)

-- the calls, by the words behind their names
abbrev pub open_in : List ℕ → Option Call
open_in line = do
  family ← word_at line 1 >>= family_in
  broker ← bytes_at line 2
  date ← number_at line 3
  first ← number_at line 4
  ledger ← word_at line 5 >>= ledger_in
  size ← number_at line 6
  Some (Open (record { family = family; broker = broker; date = date; first = first; ledger = ledger; size = size }))

abbrev pub total_in : List ℕ → Option Call
total_in line = do
  group ← group_at line
  kind ← small_at line 4
  unit ← number_at line 5
  quantity ← number_at line 6
  amount ← number_at line 7
  Some (Total (record { group = group; kind = kind; unit = unit; quantity = quantity; amount = amount }))

abbrev pub cai_in : List ℕ → Option Call
cai_in line = do
  unit ← number_at line 1
  row ← bytes_at line 2
  Some (Cai unit row)

abbrev pub line_in : List ℕ → Option Call
line_in line = do
  clock ← number_at line 1
  room ← number_at line 2
  bytes ← bytes_at line 3
  Some (Line clock room bytes)

abbrev pub figures_in : List ℕ → Option Call
figures_in line = do
  group ← group_at line
  Some (Figures group)

abbrev pub row_in : List ℕ → Option Call
row_in line = do
  index ← number_at line 1
  room ← number_at line 2
  Some (Row index room)

abbrev pub inspect_in : List ℕ → Option Call
inspect_in line = do
  bytes ← bytes_at line 1
  Some (Inspect bytes)

abbrev pub split_in : List ℕ → Option Call
split_in line = do
  quantity ← number_at line 1
  shares ← number_at line 2
  amount ← number_at line 3
  Some (Split quantity shares amount)

-- the call of this name and so many words
abbrev pub either : Bool → Option Call → Option Call → Option Call
either is call others = if is then call else others

abbrev pub is_call : List ℕ → ℕ → List ℕ → ℕ → Bool
is_call name count wanted words = count == words && bytes_eq name wanted

-- what begins and ends a transfer
abbrev pub transfer_call : List ℕ → Option Call
transfer_call name =
    either (bytes_eq name (codes "begin")) (Some Begin) (
    either (bytes_eq name (codes "end")) (Some End) None)

-- what is asked of a day by a name alone
abbrev pub plain_question : List ℕ → Option Call
plain_question name =
    either (bytes_eq name (codes "verdict")) (Some Verdict) (
    either (bytes_eq name (codes "rows")) (Some Rows) (
    either (bytes_eq name (codes "image")) (Some Image) None))

abbrev pub call_named : List ℕ → List ℕ → ℕ → Option Call
call_named line name count =
    either (is_call name count (codes "open") 7) (open_in line) (
    either (is_call name count (codes "total") 8) (total_in line) (
    either (is_call name count (codes "cai") 3) (cai_in line) (
    either (is_call name count (codes "line") 4) (line_in line) (
    either (is_call name count (codes "figures") 4) (figures_in line) (
    either (is_call name count (codes "row") 3) (row_in line) (
    either (is_call name count (codes "inspect") 2) (inspect_in line) (
    either (is_call name count (codes "split") 4) (split_in line) (
    either (count == 1) (option_or (transfer_call name) (plain_question name)) None))))))))

-- a line makes a call that has its first word for a name and as many words
abbrev pub call_in : List ℕ → Option Call
call_in line = call_named line (unwrap_or (word_at line 0) []) (length (words_of line))
