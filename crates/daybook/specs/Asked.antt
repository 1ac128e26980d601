-- What the lines of a script ask of a day. Assumes nothing.
use Rattle.std.specs.Prelude.{◌≡◌, ℕ, ◌<◌, ◌≤◌, List, [], ◌∷◌, ◌++◌, length, replicate, Some, None, Option, IfSome}
use Rattle.std.specs.Borrow.{MutBor}
use Rattle.std.specs.Option.{option_map}
use Rattle.script.specs.Calls.{call_in}
use Rattle.script.specs.Lines.{Left}
use Rattle.script.specs.declared.calls.GroupWords.{GroupWords}
use Rattle.script.specs.declared.calls.Opening.{Opening}
use Rattle.script.specs.declared.calls.TotalCall.{TotalCall}
use Rattle.script.specs.declared.calls.Call.{Call}
use Rattle.script.specs.declared.calls.Call.TheVariants.{Open, Total, Cai, Line, Begin, End, Figures, Verdict, Row, Rows, Image, Inspect, Split}
use Rattle.families.specs.Parts.{GroupParts}
use Rattle.families.specs.declared.family.Rules.{Rules}
use Rattle.ledger.specs.Lent.{Lent}
use Rattle.ledger.specs.declared.row.Entry.{Entry}
use Rattle.book.specs.Book.{Book, Records, opened_book}
use Rattle.book.specs.Calls.{Call as DayCall, total, total_row, line, figures, verdict, row, run}
use Rattle.transfer.specs.Transfers.{nought, handed_outcome, handed_on, counts_after}
use Rattle.transfer.specs.declared.counts.Counts.{Counts}
use Rattle.daybook.specs.declared.running.Behind.{Behind}
use Rattle.daybook.specs.declared.running.Behind.TheVariants.{Transfer, Lines, Day}

-- a buffer that a call is given, before the call: `#` throughout
abbrev pub hash : ℕ
hash = 35

abbrev pub buffer_of : ℕ → List ℕ
buffer_of room = replicate room hash

-- a group of the script by its fields
abbrev pub group_asked : GroupWords → GroupParts
group_asked g = record { account = g.account; security = g.security; side = g.side }

-- a total of the script as the day's call
abbrev pub total_call : TotalCall → DayCall
total_call t = total (record { group = group_asked t.group; kind = t.kind; unit = t.unit; quantity = t.quantity; amount = t.amount })

-- a line, by what the transfer that runs has counted, if one does
abbrev pub line_asked : Option Counts → List ℕ → ℕ → List ℕ → List DayCall
line_asked None bytes clock buffer = line bytes clock buffer ∷ []
line_asked (Some c) bytes clock buffer = handed_on c bytes clock buffer

-- the calls of the day that a call of the script makes: one, or none
abbrev pub asked : Option Counts → Call → List DayCall
asked t (Open opening) = []
asked t (Total figure) = total_call figure ∷ []
asked t (Cai unit bytes) = total_row bytes unit ∷ []
asked t (Line clock room bytes) = line_asked t bytes clock (buffer_of room)
asked t Begin = []
asked t End = []
asked t (Figures group) = figures (group_asked group) ∷ []
asked t Verdict = verdict ∷ []
asked t (Row index room) = row index (buffer_of room) ∷ []
asked t Rows = []
asked t Image = []
asked t (Inspect bytes) = []
asked t (Split quantity shares amount) = []

-- what a transfer has counted after a call on a day: it counts lines alone
abbrev pub counted_by : Book → Call → Counts → Counts
counted_by b (Line clock room bytes) c = counts_after c (handed_outcome b c bytes clock room).answer
counted_by b call c = c

-- the transfer that runs after a call on a day, by what it has counted, if one does
abbrev pub counting : Book → Option Counts → Call → Option Counts
counting b t Begin = Some nought
counting b t End = None
counting b t call = option_map (counted_by b call) t

-- with the calls of the lines behind it, which the day and the transfer decide; an `open` begins the next day
abbrev pub before_next : Book → Option Counts → Option Call → (Book → Option Counts → List DayCall) → List DayCall
before_next b t None behind = behind b t
before_next b t (Some (Open opening)) behind = []
before_next b t (Some call) behind = asked t call ++ behind (run b (asked t call)) (counting b t call)

-- the calls of a day that the lines behind its `open` make, where the day and the transfer that runs have come so far
abbrev pub calls_of : Book → Option Counts → List (List ℕ) → List DayCall
calls_of b t [] = []
calls_of b t (words ∷ lines) = before_next b t (call_in words) (λ next counts. calls_of next counts lines)

-- a day as a script opens it, over a ledger of a capacity and its memory, once the calls of the lines behind are made
abbrev pub day_kept : Rules → Records → ℕ → Lent → Opening → List (List ℕ) → Book
day_kept r s capacity lent o lines =
    run (opened_book r s capacity lent o.broker o.date o.first) (calls_of (opened_book r s capacity lent o.broker o.date o.first) None lines)

-- what a reference to some entries lends: every place is the ledger's
abbrev pub entries_lent : MutBor (List Entry) → Lent
entries_lent entries = record { owners = entries.ghost_name ∷ []; past = [] }

-- What the lines that are left when a transfer ends come to is what all lines behind its `begin` come to.
abbrev pub GoneOn : Behind → Book → Book → Left → Left → Type 0
GoneOn Transfer before after left rest =
    run after (calls_of after (Some nought) rest.lines) ≡ run before (calls_of before (Some nought) left.lines)
GoneOn Lines before after left rest =
    run after (calls_of after None rest.lines) ≡ run before (calls_of before (Some nought) left.lines)
GoneOn (Day opening) before after left rest = after ≡ run before (calls_of before (Some nought) left.lines)

-- a transfer that ends for another leaves fewer lines
abbrev pub Shorter : Behind → Left → Left → Type 0
Shorter Transfer left rest = length rest.lines < length left.lines
Shorter behind left rest = length rest.lines ≤ length left.lines

-- where something opens a next day, fewer lines are left of the script than before
abbrev pub FewerLeft : {A : Type 0} → Option A → Left → Left → Type 0
FewerLeft next before after = IfSome next (λ _. length after.lines < length before.lines)
