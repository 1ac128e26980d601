-- What a worked figure is, and when it holds: that the definitions behind the contracts make of what is put in what must come of
-- it. Assumes nothing.
use Rattle.std.specs.Prelude.{◌≡◌, ℕ, false, List, [], ◌∷◌, length, Some, None, codes, Option, Result}
use Rattle.octets.specs.Digits.{digits, number_in}
use Rattle.lots.specs.Split.{Run, runs}
use Rattle.lots.specs.Units.{ten_thousandths}
use Rattle.lots.specs.declared.cut.Piece.{Piece}
use Rattle.lots.specs.declared.units.Cents.{Cents}
use Rattle.lots.specs.declared.units.Shares.{Shares}
use Rattle.families.specs.Accounts.{investor_of}
use Rattle.families.specs.Families.{plan_rules, plan_layout, plan_length, omnibus_rules}
use Rattle.families.specs.Lines.{broker_of, type_of}
use Rattle.families.specs.Parts.{GroupParts}
use Rattle.families.specs.declared.family.Rules.{Rules}
use Rattle.families.specs.declared.figures.Filed.{Filed}
use Rattle.groups.specs.Groups.{nobody}
use Rattle.lines.specs.declared.open.State.{State}
use Rattle.judge.specs.Grounds.{first_of, ground_number}
use Rattle.judge.specs.Terms.{terms_grounds, wanted_of}
use Rattle.judge.specs.Wanted.{pieces_wanted}
use Rattle.judge.specs.declared.grounds.Ground.{Ground}
use Rattle.judge.specs.declared.heading.Target.{Target}
use Rattle.book.specs.Book.{Book, records_by, opened_book}
use Rattle.book.specs.Calls.{Call, after}
use Rattle.book.specs.Heard.{answer_of, buffer_of}
use Rattle.book.specs.Questions.{figures_answer}
use Rattle.worked_list.specs.declared.worked.Filing.{Filing}
use Rattle.worked_list.specs.declared.worked.Family.{Family}
use Rattle.worked_list.specs.declared.worked.Family.TheVariants.{Plan, Omnibus}

-- what is heard of a call of a day, and how its group and the ledger stand afterwards: the answer, the buffer for replies, open
-- shares and open amount with the state, and how many rows there are
pub record Seen : Type 0 where
  pub answer : Result ℕ ℕ
  pub buffer : List ℕ
  pub open_figures : Option (Shares × Cents × State)
  pub rows : ℕ

-- a day of a plan: how it is opened, over a ledger of how many places; its one group; and the calls, in order
pub record PlanDay : Type 0 where
  pub broker : List ℕ
  pub date : ℕ
  pub first : ℕ
  pub places : ℕ
  pub group : GroupParts
  pub calls : List Call

-- what is put in: a quantity of units of so many shares for an amount in cents; a filing by its terms alone, without a day; a day
pub data Question : Type 0 where
  split : ℕ → ℕ → ℕ → Question
  filing : Filing → Question
  day : PlanDay → Question

-- what comes of it: two runs; pieces, or the number of the ground for which the filing is refused; what is seen call by call
pub data Answer : Type 0 where
  in_runs : Run × Run → Answer
  in_pieces : List Piece → Answer
  refused : ℕ → Answer
  in_turn : List Seen → Answer

pub record Figure : Type 0 where
  pub question : Question
  pub answer : Answer

-- Filings.
abbrev pub rules_of : Family → Rules
rules_of Plan = plan_rules
rules_of Omnibus = omnibus_rules

-- a group of the filing's size, allocated from by a domestic account
abbrev pub target_for : Filing → Target
target_for f = record {
  stem = (rules_of f.family).domestic;
  place = record { number = 0; group = record { name = nobody; size = f.size; retained = false } };
  kind = f.kind;
}

-- its terms as a line says them; the broker and the account to allocate to and the order type are good
abbrev pub filed_as : Filing → Filed
filed_as f = record {
  common = record {
    order = None;
    investor = investor_of (codes "1234560");
    quantity = number_in (digits 8 f.quantity);
    amount = number_in (digits 16 (ten_thousandths f.amount));
  };
  new_broker = broker_of (codes "9801");
  order_type = type_of (codes "0");
}

-- the first ground on its terms, if one applies
abbrev pub ground_on : Filing → Option Ground
ground_on f = first_of (terms_grounds (rules_of f.family) (target_for f) (filed_as f))

abbrev pub answer_to_filing : Filing → Answer
answer_to_filing f =
    elim (ground_on f) [
      | Some g ↦ refused (ground_number g)
      | None ↦ in_pieces (pieces_wanted (wanted_of (rules_of f.family) (target_for f) (filed_as f)))
    ]

-- Days.
abbrev pub opened_by : PlanDay → Book
opened_by d = opened_book plan_rules (records_by plan_layout plan_length) d.places (record { owners = []; past = [] }) d.broker d.date d.first

abbrev pub seen_after : PlanDay → Book → Call → Seen
seen_after d b c = record {
  answer = answer_of b c;
  buffer = buffer_of b c;
  open_figures = figures_answer (after b c) d.group;
  rows = length (after b c).rows;
}

abbrev pub seen_from : PlanDay → Book → List Call → List Seen
seen_from d b [] = []
seen_from d b (c ∷ cs) = seen_after d b c ∷ seen_from d (after b c) cs

-- what the definitions behind the contracts make of a question
abbrev pub answer_to : Question → Answer
answer_to (split q s amount) = in_runs (runs q s amount)
answer_to (filing f) = answer_to_filing f
answer_to (day d) = in_turn (seen_from d (opened_by d) d.calls)

abbrev pub Holds : Figure → Type 0
Holds f = answer_to f.question ≡ f.answer
