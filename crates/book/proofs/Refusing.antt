-- What comes of a refused line.
use Rattle.std.proofs.Common.{◌≡◌, ℕ, arith, Bool, true, false, cond, nat_eq, nat_le, nat_lt, List, length, Some, None, Ok, Err, Option, Result, refl, sym, ap, ◌∙◌}
use Rattle.std.proofs.lemmas.Bool.Decides.{nat_tests}
use Rattle.layout.specs.Layouts.{record_of}
use Rattle.forms.specs.Replies.{repeat_says}
use Rattle.forms.specs.Said.{Said, filing, deletion, retention}
use Rattle.forms.specs.declared.telling.NotTold.{NotTold}
use Rattle.judge.specs.Grounds.{ground_number, first_of}
use Rattle.judge.specs.declared.grounds.Ground.{Ground}
use Rattle.judge.specs.declared.grounds.Ground.TheVariants.{LineLength, ReplyRoom, NoTotal, Code, DayFigures}
use Rattle.judge.specs.Wanted.{count_of}
use Rattle.book.specs.Book.{Book, Outcome}
use Rattle.judge.specs.declared.heading.Target.{Target}
use Rattle.book.specs.Lines.{refused, target_in, done_with, filed_by, wanted_by, entered, deleted, retained_in, filing_grounds, deletion_grounds, retention_grounds_in, line_said, said_outcome, line_outcome}

module _ (b : Book) (line : List ℕ) where
  -- a refusal by its number
  abbrev pub by_number : ℕ → Outcome
  by_number n = record { answer = Err n; book = b; replies = record_of (repeat_says line n) b.records.reply }

  abbrev answered : ℕ → Result ℕ ℕ
  answered n = Err n

  same_number : (n m : ℕ) → answered n ≡ answered m → n ≡ m
  same_number n m h = cc

  abbrev by : Option Ground → Outcome → Outcome
  by x accepted = elim x [ Some g ↦ refused b line g | None ↦ accepted ]

  by_first : (x : Option Ground) (accepted : Outcome) (n k : ℕ) → accepted.answer ≡ Ok k → Err n ≡ (by x accepted).answer → by x accepted ≡ by_number n
  by_first (Some g) accepted n k a h = ap by_number (same_number (ground_number g) n (sym h))
  by_first None accepted n k a h = cc

  by_done : (x : Option Ground) (o : Option Target) (does : Target → Outcome) (count : Target → ℕ) (n : ℕ) → ((t : Target) → (does t).answer ≡ Ok (count t)) → Err n ≡ (by x (done_with b line o does)).answer → by x (done_with b line o does) ≡ by_number n
  by_done (Some g) o does count n a h = ap by_number (same_number (ground_number g) n (sym h))
  by_done None (Some t) does count n a h = by_first None (does t) n (count t) (a t) h
  by_done None None does count n a h = ap by_number (same_number (ground_number NoTotal) n (sym h))

  -- what is answered as refused on a number is that refusal
  refused_is : (s : Result Said NotTold) (clock space n : ℕ) → Err n ≡ (said_outcome b line s clock space).answer → said_outcome b line s clock space ≡ by_number n
  refused_is (Ok (filing p)) clock space n h = by_done (first_of (filing_grounds b p clock space)) (target_in b p.heading) (entered b line (filed_by b p)) (λ t. count_of (wanted_by b t (filed_by b p))) n (λ t. refl) h
  refused_is (Ok (deletion p)) clock space n h = by_done (first_of (deletion_grounds b p clock)) (target_in b p) (deleted b line) (λ t. 1) n (λ t. refl) h
  refused_is (Ok (retention p)) clock space n h = by_first (first_of (retention_grounds_in b p clock space)) (retained_in b p) n _ refl h
  refused_is (Err e) clock space n h = ap by_number (same_number (ground_number (cond b.opened.good Code DayFigures)) n (sym h))

  chosen : (x y : Bool) (o p q : Outcome) → x ≡ true → y ≡ false → cond x (cond y o p) q ≡ p
  chosen true false o p q h k = refl
  chosen true true o p q h k = cc
  chosen false y o p q h k = cc

  held : (t : Bool) (g : Ground) → None ≡ cond t None (Some g) → t ≡ true
  held true g h = refl
  held false g h = cc

  -- a line of the right length, where there is room for a reply, comes to what it tells
  line_taken : (clock space l r : ℕ) → l ≡ b.records.line_length → r ≡ b.records.reply_length → None ≡ cond (nat_eq (length line) l) None (Some LineLength) → None ≡ cond (nat_le r space) None (Some ReplyRoom)
      → line_outcome b line clock space ≡ said_outcome b line (line_said b line) clock space
  line_taken clock space l r is_l is_r h k =
      let whole : nat_eq (length line) b.records.line_length ≡ true = ap (nat_eq (length line)) (sym is_l) ∙ held (nat_eq (length line) l) LineLength h in
      let long : nat_le r space ≡ true = held (nat_le r space) ReplyRoom k in
      let room : nat_lt space b.records.reply_length ≡ false = grind (arith, nat_tests) in
      chosen (nat_eq (length line) b.records.line_length) (nat_lt space b.records.reply_length) _ _ _ whole room

  -- and where that was refused on a number, to that refusal
  pub refused_line : (clock space l r n : ℕ) → l ≡ b.records.line_length → r ≡ b.records.reply_length → None ≡ cond (nat_eq (length line) l) None (Some LineLength) → None ≡ cond (nat_le r space) None (Some ReplyRoom)
      → Err n ≡ (said_outcome b line (line_said b line) clock space).answer → by_number n ≡ line_outcome b line clock space
  refused_line clock space l r n is_l is_r h k e = sym (line_taken clock space l r is_l is_r h k ∙ refused_is (line_said b line) clock space n e)
