-- An entry of the code's table as a worked figure. Assumes nothing.
use Rattle.std.specs.Prelude.{ℕ, List, [], map, Some, Ok}
use Rattle.families.specs.Parts.{GroupParts}
use Rattle.book.specs.Calls.{Call as DayCall, total, line}
use Rattle.worked_list.specs.Answers.{split, filing, day, in_runs, in_pieces, refused, in_turn, Figure, PlanDay, Seen}
use Rattle.worked_list.specs.Figures.{hashes, with_replies}
use Rattle.worked_list.specs.declared.worked.Call.{Call}
use Rattle.worked_list.specs.declared.worked.Call.TheVariants.{Total, Line}
use Rattle.worked_list.specs.declared.worked.Step.{Step}
use Rattle.worked_list.specs.declared.worked.Day.{Day}
use Rattle.worked_list.specs.declared.worked.Worked.{Worked}
use Rattle.worked_list.specs.declared.worked.Worked.TheVariants.{Split, Accepted, Refused, OnDay}

abbrev pub group_of : Day → GroupParts
group_of d = record { account = d.account.now; security = d.security.now; side = d.side.now }

abbrev pub call_on : Day → Call → DayCall
call_on d (Total kind unit quantity amount) = total (record { group = group_of d; kind = kind; unit = unit; quantity = quantity; amount = amount })
call_on d (Line bytes clock) = line bytes.now clock hashes

-- a total is given no buffer
abbrev pub buffer_after : Call → List (List ℕ) → List ℕ
buffer_after (Total kind unit quantity amount) replies = []
buffer_after (Line bytes clock) replies = with_replies replies

abbrev pub seen_by : Step → Seen
seen_by s = record {
  answer = Ok s.answer;
  buffer = buffer_after s.call (map (λ r. r.now) s.replies.now);
  open_figures = Some s.open_figures;
  rows = s.rows;
}

abbrev pub day_of : Day → PlanDay
day_of d = record {
  broker = d.broker.now;
  date = d.date;
  first = d.first;
  places = d.places;
  group = group_of d;
  calls = map (λ s. call_on d s.call) d.steps.now;
}

abbrev pub figure_of : Worked → Figure
figure_of (Split q s amount runs) = record { question = split q s amount.count; answer = in_runs runs }
figure_of (Accepted f pieces) = record { question = filing f; answer = in_pieces pieces.now }
figure_of (Refused f number) = record { question = filing f; answer = refused number }
figure_of (OnDay d) = record { question = day (day_of d); answer = in_turn (map seen_by d.steps.now) }
