-- What is heard of a day by whoever makes the calls, and what comes of it: the tally, and the pieces answered. Assumes nothing.
use Rattle.std.specs.Prelude.{ℕ, zero, suc, Bool, List, [], ◌∷◌, ◌++◌, take, drop, length, Ok, Err, Result}
use Rattle.octets.specs.Digits.{number_in}
use Rattle.octets.specs.Splice.{spliced}
use Rattle.lots.specs.Units.{kind_of}
use Rattle.layout.specs.Layouts.{told}
use Rattle.layout.specs.declared.field.Item.TheVariants.{Quantity, Amount}
use Rattle.families.specs.Tables.{total_row as total_layout}
use Rattle.families.specs.declared.family.Rules.{Rules}
use Rattle.forms.specs.Said.{Said, said, filing, deletion, retention}
use Rattle.forms.specs.declared.telling.NotTold.{NotTold}
use Rattle.judge.specs.Totals.{asked_plainly}
use Rattle.book.specs.Book.{Book, Records}
use Rattle.book.specs.Lines.{line_outcome}
use Rattle.book.specs.Totals.{total_outcome, total_row_outcome}
use Rattle.book.specs.Calls.{Call, total, total_row, line, figures, verdict, row, after}
use Rattle.book.specs.Tally.{Tally, total_heard, row_heard, line_heard}

-- the call, what it was answered, and what the buffer for its replies then held
pub record Heard : Type 0 where
  pub call : Call
  pub answer : Result ℕ ℕ
  pub buffer : List ℕ

-- Questions change nothing, and are told apart here from refusals by nothing: they answer 0.
abbrev pub answer_of : Book → Call → Result ℕ ℕ
answer_of b (total t) = (total_outcome b (asked_plainly t)).answer
answer_of b (total_row bytes unit) = (total_row_outcome b bytes unit).answer
answer_of b (line bytes clock buffer) = (line_outcome b bytes clock (length buffer)).answer
answer_of b (figures g) = Ok 0
answer_of b verdict = Ok 0
answer_of b (row i buffer) = Ok 0

abbrev pub buffer_of : Book → Call → List ℕ
buffer_of b (total t) = []
buffer_of b (total_row bytes unit) = []
buffer_of b (line bytes clock buffer) = spliced buffer 0 (line_outcome b bytes clock (length buffer)).replies
buffer_of b (figures g) = []
buffer_of b verdict = []
buffer_of b (row i buffer) = []

abbrev pub heard : Book → List Call → List Heard
heard b [] = []
heard b (c ∷ cs) = record { call = c; answer = answer_of b c; buffer = buffer_of b c } ∷ heard (after b c) cs

-- what an accepted call does to the tally
abbrev pub call_heard : Rules → Records → Call → Tally → Tally
call_heard r s (total p) t = total_heard r p.group (kind_of p.kind) p.unit p.quantity p.amount t
call_heard r s (total_row bytes unit) t = row_heard r bytes (number_in (told total_layout Quantity bytes)) (number_in (told total_layout Amount bytes)) unit t
call_heard r s (line bytes clock buffer) t = line_heard r (said s.line s.line_length r.retains bytes) t
call_heard r s (figures g) t = t
call_heard r s verdict t = t
call_heard r s (row i buffer) t = t

-- refused calls change nothing
abbrev pub noted : Rules → Records → Tally → Heard → Tally
noted r s t h = elim h.answer [ Ok n ↦ call_heard r s h.call t | Err g ↦ t ]

abbrev pub tallied : Rules → Records → Tally → List Heard → Tally
tallied r s t [] = t
tallied r s t (h ∷ hs) = tallied r s (noted r s t h) hs

-- The replies that accepted filings gave: as many records as were answered, from the front of the buffer. `records_in` is the
-- library's `first_chunks`, written out, as the law is read by itself.
abbrev pub records_in : ℕ → ℕ → List ℕ → List (List ℕ)
records_in w zero buffer = []
records_in w (suc n) buffer = take w buffer ∷ records_in w n (drop w buffer)

abbrev pub pieces_said : Records → Result Said NotTold → ℕ → List ℕ → List (List ℕ)
pieces_said s (Ok (filing p)) n buffer = records_in s.reply_length n buffer
pieces_said s (Ok (deletion p)) n buffer = []
pieces_said s (Ok (retention p)) n buffer = []
pieces_said s (Err e) n buffer = []

abbrev pub pieces_by : Records → Bool → Call → ℕ → List ℕ → List (List ℕ)
pieces_by s retains (total t) n buffer = []
pieces_by s retains (total_row bytes unit) n buffer = []
pieces_by s retains (line bytes clock before) n buffer = pieces_said s (said s.line s.line_length retains bytes) n buffer
pieces_by s retains (figures g) n buffer = []
pieces_by s retains verdict n buffer = []
pieces_by s retains (row i before) n buffer = []

abbrev pub pieces_of_call : Records → Bool → Heard → List (List ℕ)
pieces_of_call s retains h = elim h.answer [ Ok n ↦ pieces_by s retains h.call n h.buffer | Err g ↦ [] ]

abbrev pub pieces_heard : Records → Bool → List Heard → List (List ℕ)
pieces_heard s retains [] = []
pieces_heard s retains (h ∷ hs) = pieces_of_call s retains h ++ pieces_heard s retains hs
