-- What an index keeps of the rows, from call to call. Assumes nothing.
use Rattle.std.proofs.Common.{◌≡◌, ℕ, ◌+◌, ◌<◌, List, [], ◌∷◌, ◌++◌, Some, None, length, filter, replicate, set, refl, sym, ap, ◌∙◌, ⊎_elim, arith}
use Rattle.std.specs.List.{slice_get}
use Rattle.std.specs.HashMap.{get}
use Rattle.std.proofs.lemmas.Bool.{cases_Bool, false≢true}
use Rattle.std.proofs.lemmas.List.Folds.{list_all-append}
use Rattle.std.proofs.lemmas.Option.{none-some, slice_get_within}
use Rattle.std.proofs.lemmas.Grind.{common_steps}
use Rattle.ledger.specs.declared.row.Entry.{Entry}
use Rattle.ledger.specs.declared.row.OrderNumber.{OrderNumber}
use Rattle.ledger.specs.Rows.{of_order, has_order, others}
use Rattle.indexed.specs.declared.index.Mark.{Mark}
use Rattle.indexed.specs.declared.index.Section.{Section}
use Rattle.indexed.specs.Index.{section_number, empty_section, Orders, same_order, stands, is_marked, AddsTo, Marks, Keeps}
use Rattle.indexed.proofs.Lists.{any_and_all, all_weaker, all_filtered, read_after}
use Rattle.indexed.proofs.Sections.{held-none, held-after_removal, held-after_addition}
use Rattle.indexed.proofs.OrderNumbers.{same_order-same, stands-marked, others-section, marked-apart, standing-after_removal, marked-after_addition, marked-added, standing-after_addition, past-after_addition}

-- the order numbers that stand are those of the rows
pub stands-keeps : (sections : List Section) (orders : Orders) (rows : List Entry) → Keeps sections orders rows → (o : OrderNumber) → stands sections orders o ≡ has_order o rows
stands-keeps sections orders rows keeps o =
    let there = any_and_all (of_order o) (is_marked sections orders) (stands sections orders o) (λ e of marked. rw (← same_order-same e.order o of) (stands-marked sections e (get same_order orders e.order) marked)) rows in
    ⊎_elim (λ yes. there yes keeps.marks ∙ sym yes) (λ no. ⊎_elim (λ on. absurd (false≢true (sym no ∙ keeps.numbers o on))) (λ off. off ∙ sym no) (cases_Bool (stands sections orders o))) (cases_Bool (has_order o rows))

-- empty sections and no marks keep no rows
pub Keeps-none : (n epoch : ℕ) (orders : Orders) → orders.entries ≡ [] → Keeps (replicate n (empty_section epoch)) orders []
Keeps-none n epoch orders none =
    let unmarked : (o : OrderNumber) → get same_order orders o ≡ None = λ o. rw none refl in
    record {
      sums = held-none n epoch;
      marks = refl;
      numbers = λ o on. rw (unmarked o) at on;
      epochs = λ o m s got own. absurd (none-some m (sym (unmarked o) ∙ got));
    }

-- what is kept once the rows of a group and kind are gone
pub Keeps-removal : (sections : List Section) (orders : Orders) (rows : List Entry) (g k n : ℕ) (s : Section) → section_number g k ≡ Some n → slice_get sections n ≡ Some s → Keeps sections orders rows
    → Keeps (set sections n (empty_section (s.epoch + 1))) orders (filter (others g k) rows)
Keeps-removal sections orders rows g k n s number own keeps =
    let next = empty_section (s.epoch + 1) in
    let within : n < length sections = slice_get_within sections n s own in
    record {
      sums = held-after_removal sections rows g k n (s.epoch + 1) number within keeps.sums;
      marks = all_filtered (is_marked sections orders) (is_marked (set sections n next) orders) (others g k) (λ e marked left. marked-apart sections n next e (get same_order orders e.order) (others-section g k n e number left) marked) rows keeps.marks;
      numbers = λ o. standing-after_removal sections orders rows g k n s number own keeps o (get same_order orders o) refl;
      epochs = λ o m l got found. ⊎_elim (λ same. let past = keeps.epochs o m s got (rw same.0 own) in let e = ap (λ x. x.epoch) same.1 in omega arith) (λ other. keeps.epochs o m l got other.1) (read_after sections n next m.section l within found);
    }

-- what is kept once an entry is added to its section and its order number is marked
pub Keeps-addition : (sections : List Section) (orders new_orders : Orders) (rows : List Entry) (e : Entry) (n : ℕ) (s new : Section) → section_number e.group e.kind ≡ Some n → slice_get sections n ≡ Some s → AddsTo e s new
    → Marks sections e.order (record { section = n; epoch = s.epoch }) orders new_orders → Keeps sections orders rows → Keeps (set sections n new) new_orders (rows ++ e ∷ [])
Keeps-addition sections orders new_orders rows e n s new number own adds marks keeps =
    let after = set sections n new in
    let m : Mark = record { section = n; epoch = s.epoch } in
    let old_rows = all_weaker (is_marked sections orders) (is_marked after new_orders) (λ x is. marked-after_addition sections orders new_orders e.order m n s new own adds.epoch marks x (get same_order orders x.order) refl is) rows keeps.marks in
    let new_row = marked-added sections orders new_orders e n s new number own adds.epoch marks in
    let both = list_all-append (is_marked after new_orders) rows (e ∷ []) in
    record {
      sums = held-after_addition sections rows e n s new number own adds keeps.sums;
      marks = grind (arith, common_steps);
      numbers = standing-after_addition sections orders new_orders rows e m n s new own adds.epoch marks keeps.numbers;
      epochs = past-after_addition sections orders new_orders e.order n s new own adds.epoch marks keeps.epochs;
    }
