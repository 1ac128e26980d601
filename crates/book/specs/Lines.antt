-- What comes of a line: the grounds on it, in the order of the checks, and what an accepted one does. Assumes nothing.
use Rattle.std.specs.Prelude.{ℕ, ◌+◌, ◌*◌, Bool, cond, not, ◌&&◌, List, [], ◌∷◌, ◌++◌, length, filter, unwrap_or, Some, None, Ok, Err, Option, Result, ◌==◌, nat_lt}
use Rattle.lots.specs.Units.{kind_number}
use Rattle.layout.specs.Layouts.{record_of}
use Rattle.ledger.specs.Rows.{of_kind, others}
use Rattle.ledger.specs.declared.row.Entry.{Entry}
use Rattle.families.specs.Accounts.{account_of}
use Rattle.families.specs.Lines.{filed_in}
use Rattle.families.specs.Parts.{HeadingParts, FilingParts, RetentionParts}
use Rattle.families.specs.declared.figures.Filed.{Filed}
use Rattle.forms.specs.Replies.{repeat_says}
use Rattle.forms.specs.Said.{Said, said, filing, deletion, retention}
use Rattle.forms.specs.declared.telling.NotTold.{NotTold}
use Rattle.groups.specs.Groups.{some, any_below}
use Rattle.groups.specs.Limits.{most_groups}
use Rattle.groups.specs.declared.kept.Total.{Total}
use Rattle.judge.specs.Grounds.{ground_number, first_of}
use Rattle.judge.specs.Heading.{named_grounds, retention_grounds, target_of}
use Rattle.judge.specs.Terms.{terms_grounds, wanted_of}
use Rattle.judge.specs.Wanted.{shares_wanted, count_of}
use Rattle.judge.specs.declared.grounds.Ground.{Ground}
use Rattle.judge.specs.declared.grounds.Ground.TheVariants.{LineLength, ReplyRoom, DayFigures, Code, NoTotal, NoRow, NothingUnfinished, Replies}
use Rattle.judge.specs.declared.heading.Target.{Target}
use Rattle.judge.specs.declared.terms.Wanted.{Wanted}
use Rattle.lines.specs.Enter.{entries_in}
use Rattle.lines.specs.Entries.{each_of, entering_of}
use Rattle.lines.specs.Open.{standing_at, survey_at}
use Rattle.lines.specs.PieceReplies.{piece_replies}
use Rattle.lines.specs.Retained.{totals_taken, retained_replies}
use Rattle.lines.specs.Room.{order_grounds, room_grounds}
use Rattle.lines.specs.Taking.{taken_at, rows_left, marked}
use Rattle.lines.specs.declared.entering.Accepted.{Accepted}
use Rattle.lines.specs.declared.entries.Entering.{Entering}
use Rattle.lines.specs.declared.open.Standing.{Standing}
use Rattle.book.specs.Book.{Book, Outcome, refused_alone}

-- A refused line changes nothing, and gets one reply, which repeats it with the number of the ground.
abbrev pub refused : Book → List ℕ → Ground → Outcome
refused b line g = record { answer = Err (ground_number g); book = b; replies = record_of (repeat_says line (ground_number g)) b.records.reply }

-- accepted exactly when none of the grounds applies, and else refused by the first that does
abbrev pub judged : Book → List ℕ → List (Ground × Bool) → Outcome → Outcome
judged b line grounds accepted = elim (first_of grounds) [ Some g ↦ refused b line g | None ↦ accepted ]

-- What a filing or a deletion names, and the grounds on that.
abbrev pub target_in : Book → HeadingParts → Option Target
target_in b h = target_of b.rules b.groups h

abbrev pub name_grounds : Book → HeadingParts → ℕ → List (Ground × Bool)
name_grounds b h clock = named_grounds b.opened b.rules b.groups h clock

-- what is asked of it, and done with it; where a line names none, one of those grounds refuses it
abbrev pub grounds_on : Option Target → (Target → List (Ground × Bool)) → List (Ground × Bool)
grounds_on (Some t) asked = asked t
grounds_on None asked = []

abbrev pub done_with : Book → List ℕ → Option Target → (Target → Outcome) → Outcome
done_with b line (Some t) done = done t
done_with b line None done = refused b line NoTotal

-- Filings.
abbrev pub filed_by : Book → FilingParts → Filed
filed_by b p = filed_in b.rules p

-- how its group stands, what it asks for, what its entries have in common
abbrev pub standing_of : Book → Target → Standing
standing_of b t = standing_at b.totals b.rows t.place.number t.place.group

abbrev pub wanted_by : Book → Target → Filed → Wanted
wanted_by b t f = wanted_of b.rules t f

abbrev pub entering_by : Book → Target → Filed → Entering
entering_by b t f = entering_of b.rules t f

-- nothing of its group is open any more
abbrev pub completes : Standing → Wanted → Bool
completes s w = s.open_shares.count == shares_wanted w && s.open_amount.count == w.amount.count

-- the grounds on what it files: its order number, what it asks for, whether there is room
abbrev pub filed_grounds : Book → Filed → ℕ → Target → List (Ground × Bool)
filed_grounds b f space t =
    order_grounds b.rows f.common.order ++
    (terms_grounds b.rules t f ++
    room_grounds (length b.rows) b.capacity (standing_of b t) (wanted_by b t f) b.next space b.records.reply_length)

abbrev pub filing_grounds : Book → FilingParts → ℕ → ℕ → List (Ground × Bool)
filing_grounds b p clock space =
    name_grounds b p.heading clock ++ grounds_on (target_in b p.heading) (filed_grounds b (filed_by b p) space)

-- Its pieces become the last rows, under the next trade numbers, and each gets its reply.
abbrev pub rows_filed : Book → Target → Filed → List Entry
rows_filed b t f = entries_in b.rows (entering_by b t f) b.next (wanted_by b t f)

abbrev pub entered : Book → List ℕ → Filed → Target → Outcome
entered b line f t = record {
  answer = Ok (count_of (wanted_by b t f));
  book = record b { next = b.next + count_of (wanted_by b t f); rows = b.rows ++ rows_filed b t f };
  replies = piece_replies b.records.reply line (each_of (entering_by b t f)) (completes (standing_of b t) (wanted_by b t f)) (rows_filed b t f);
}

-- what an accepted one is entered by: the 0 stands for an order type that a ground refuses
abbrev pub accepted_as : Book → Target → Filed → Accepted
accepted_as b t f = record {
  entering = entering_by b t f;
  wanted = wanted_by b t f;
  survey = survey_at b.totals b.rows t (unwrap_or f.order_type 0);
  next = b.next;
  completes = completes (standing_of b t) (wanted_by b t f);
}

abbrev pub filing_done : Book → List ℕ → FilingParts → Outcome
filing_done b line p = done_with b line (target_in b p.heading) (entered b line (filed_by b p))

abbrev pub filing_outcome : Book → List ℕ → FilingParts → ℕ → ℕ → Outcome
filing_outcome b line p clock space = judged b line (filing_grounds b p clock space) (filing_done b line p)

-- Deletions: every row of the group and kind goes.
abbrev pub of_target : Target → Entry → Bool
of_target t = of_kind t.place.number (kind_number t.kind)

abbrev pub row_grounds : Book → Target → List (Ground × Bool)
row_grounds b t = (NoRow, not (some (of_target t) b.rows)) ∷ []

abbrev pub deletion_grounds : Book → HeadingParts → ℕ → List (Ground × Bool)
deletion_grounds b h clock = name_grounds b h clock ++ grounds_on (target_in b h) (row_grounds b)

abbrev pub struck : Book → Target → Book
struck b t = record b { rows = filter (others t.place.number (kind_number t.kind)) b.rows }

abbrev pub deleted : Book → List ℕ → Target → Outcome
deleted b line t = record {
  answer = Ok 1;
  book = struck b t;
  replies = record_of (repeat_says line 0) b.records.reply;
}

abbrev pub deletion_done : Book → List ℕ → HeadingParts → Outcome
deletion_done b line h = done_with b line (target_in b h) (deleted b line)

abbrev pub deletion_outcome : Book → List ℕ → HeadingParts → ℕ → Outcome
deletion_outcome b line h clock = judged b line (deletion_grounds b h clock) (deletion_done b line h)

-- Retentions: the unfinished groups of the account are retained and their rows go; each of their totals gets a reply. 0 stands for
-- an account that a ground refuses.
abbrev pub taken_of : Book → RetentionParts → ℕ → Bool
taken_of b p = taken_at b.groups b.totals b.rows (unwrap_or (account_of p.account) 0)

abbrev pub totals_answered : Book → RetentionParts → List Total
totals_answered b p = totals_taken (taken_of b p) b.totals

-- the grounds on the groups that are taken
abbrev pub taking_grounds : Book → (ℕ → Bool) → ℕ → List (Ground × Bool)
taking_grounds b taken space =
    (NothingUnfinished, not (any_below taken most_groups)) ∷
    (Replies, nat_lt space (length (totals_taken taken b.totals) * b.records.reply_length)) ∷ []

abbrev pub retention_grounds_in : Book → RetentionParts → ℕ → ℕ → List (Ground × Bool)
retention_grounds_in b p clock space =
    retention_grounds b.opened b.rules b.groups p clock ++ taking_grounds b (taken_of b p) space

abbrev pub retained_in : Book → RetentionParts → Outcome
retained_in b p = record {
  answer = Ok (length (totals_answered b p));
  book = record b { groups = marked (taken_of b p) 0 b.groups; rows = rows_left (taken_of b p) b.rows };
  replies = retained_replies b.records.reply b.opened.broker b.opened.date b.groups (totals_answered b p);
}

abbrev pub retention_outcome : Book → List ℕ → RetentionParts → ℕ → ℕ → Outcome
retention_outcome b line p clock space = judged b line (retention_grounds_in b p clock space) (retained_in b p)

-- A line by what it tells; space is the length of the buffer for replies.
abbrev pub said_outcome : Book → List ℕ → Result Said NotTold → ℕ → ℕ → Outcome
said_outcome b line (Ok (filing p)) clock space = filing_outcome b line p clock space
said_outcome b line (Ok (deletion h)) clock space = deletion_outcome b line h clock
said_outcome b line (Ok (retention p)) clock space = retention_outcome b line p clock space
said_outcome b line (Err e) clock space = refused b line (cond b.opened.good Code DayFigures)

abbrev pub line_said : Book → List ℕ → Result Said NotTold
line_said b line = said b.records.line b.records.line_length b.rules.retains line

abbrev pub line_outcome : Book → List ℕ → ℕ → ℕ → Outcome
line_outcome b line clock space =
    cond (length line == b.records.line_length)
    (cond (nat_lt space b.records.reply_length) (refused_alone b ReplyRoom) (said_outcome b line (line_said b line) clock space))
    (refused_alone b LineLength)
