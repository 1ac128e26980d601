-- The grounds on a line, list by list: which list the first that applies stands in.
use Rattle.std.proofs.Common.{◌≡◌, ℕ, ◌*◌, ◌≤◌, Bool, List, ◌++◌, length, Some, None, Option, ap, sym, ◌∙◌}
use Rattle.std.proofs.lemmas.Bool.{ltb-false}
use Rattle.families.specs.Parts.{HeadingParts, RetentionParts}
use Rattle.families.specs.declared.figures.Filed.{Filed}
use Rattle.judge.specs.Grounds.{first_of}
use Rattle.judge.specs.Terms.{terms_grounds}
use Rattle.judge.specs.declared.grounds.Ground.{Ground}
use Rattle.judge.specs.declared.heading.Target.{Target}
use Rattle.judge.proofs.Firsts.{none_all, none-append, here, later}
use Rattle.lines.specs.Room.{order_grounds, room_grounds}
use Rattle.book.specs.Book.{Book, Outcome}
use Rattle.book.specs.Lines.{standing_of, wanted_by, target_in, name_grounds, grounds_on, done_with, filed_grounds, totals_answered, retention_grounds_in}

-- a line that names something is asked of that, and comes to what is done with it
module _ (b : Book) (h : HeadingParts) (clock : ℕ) (asked : Target → List (Ground × Bool)) where
  abbrev pub all_grounds : List (Ground × Bool)
  all_grounds = name_grounds b h clock ++ grounds_on (target_in b h) asked

  pub of_names : {g : Ground} → Some g ≡ first_of (name_grounds b h clock) → Some g ≡ first_of all_grounds
  of_names e = here (name_grounds b h clock) (grounds_on (target_in b h) asked) e

  pub of_target : (t : Target) {x : Option Ground} → target_in b h ≡ Some t → None ≡ first_of (name_grounds b h clock) → x ≡ first_of (asked t) → x ≡ first_of all_grounds
  of_target t e n a = later (name_grounds b h clock) (grounds_on (target_in b h) asked) n (a ∙ sym (ap (λ o. first_of (grounds_on o asked)) e))

  -- where none applies, none of either applies
  pub names_none : first_of all_grounds ≡ None → first_of (name_grounds b h clock) ≡ None
  names_none n = (none-append (name_grounds b h clock) (grounds_on (target_in b h) asked) n).0

  pub target_none : (t : Target) → target_in b h ≡ Some t → first_of all_grounds ≡ None → first_of (asked t) ≡ None
  target_none t e n = sym (ap (λ o. first_of (grounds_on o asked)) e) ∙ (none-append (name_grounds b h clock) (grounds_on (target_in b h) asked) n).1

pub done : (b : Book) (line : List ℕ) (h : HeadingParts) (t : Target) (does : Target → Outcome) → target_in b h ≡ Some t → does t ≡ done_with b line (target_in b h) does
done b line h t does e = sym (ap (λ o. done_with b line o does) e)

-- what a filing files
module _ (b : Book) (f : Filed) (space : ℕ) (t : Target) where
  abbrev pub on_order : List (Ground × Bool)
  on_order = order_grounds b.rows f.common.order

  abbrev pub on_terms : List (Ground × Bool)
  on_terms = terms_grounds b.rules t f

  abbrev pub on_room : List (Ground × Bool)
  on_room = room_grounds (length b.rows) b.capacity (standing_of b t) (wanted_by b t f) b.next space b.records.reply_length

  -- the first that applies is of one list, where none of the lists before it applies
  pub of_order : {g : Ground} → Some g ≡ first_of on_order → Some g ≡ first_of (filed_grounds b f space t)
  of_order h = here on_order (on_terms ++ on_room) h

  pub of_terms : {g : Ground} → None ≡ first_of on_order → Some g ≡ first_of on_terms → Some g ≡ first_of (filed_grounds b f space t)
  of_terms o h = later on_order (on_terms ++ on_room) o (here on_terms on_room h)

  pub of_room : {x : Option Ground} → None ≡ first_of on_order → None ≡ first_of on_terms → x ≡ first_of on_room → x ≡ first_of (filed_grounds b f space t)
  of_room o k h = later on_order (on_terms ++ on_room) o (later on_terms on_room k h)

-- where no ground on a retention applies, its replies have room
pub retention_room : (b : Book) (p : RetentionParts) (clock space : ℕ) → first_of (retention_grounds_in b p clock space) ≡ None → length (totals_answered b p) * b.records.reply_length ≤ space
retention_room b p clock space h =
    ltb-false space (length (totals_answered b p) * b.records.reply_length) (none_all (retention_grounds_in b p clock space) h).1.1.1.1.1.1.1.1.1.0
