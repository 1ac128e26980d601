-- Which order numbers stand, from call to call. Assumes nothing.
use Rattle.std.proofs.Common.{◌≡◌, ℕ, ◌+◌, ◌<◌, ◌≤◌, ◌≢◌, true, false, ◌==◌, List, [], ◌∷◌, ◌++◌, Option, Some, None, length, filter, set, refl, sym, ap, ◌∙◌, ⊎_elim, arith}
use Rattle.std.specs.List.{list_all, slice_get}
use Rattle.std.specs.Option.{option_map_or}
use Rattle.std.specs.HashMap.{get}
use Rattle.std.proofs.lemmas.Bool.{cases_Bool, cases_eq}
use Rattle.std.proofs.lemmas.List.Folds.{list_any-append}
use Rattle.std.proofs.lemmas.Option.{same_Some, slice_get_within}
use Rattle.std.proofs.lemmas.Grind.{common_steps}
use Rattle.ledger.specs.declared.row.Entry.{Entry}
use Rattle.ledger.specs.declared.row.OrderNumber.{OrderNumber}
use Rattle.ledger.specs.Rows.{of_kind, of_order, has_order, others}
use Rattle.indexed.specs.declared.index.Mark.{Mark}
use Rattle.indexed.specs.declared.index.Section.{Section}
use Rattle.indexed.specs.Index.{section_number, empty_section, Orders, same_order, is_present, stands, is_own, is_marked, Marks, Keeps}
use Rattle.indexed.proofs.Lists.{all_weaker, any_filtered, filter_all, slice_get-set_same, slice_get-set_other, read_after}
use Rattle.indexed.proofs.Sections.{section_number-same}

pub same_order-same : (a b : OrderNumber) → same_order a b ≡ true → a ≡ b
same_order-same a b is = grind (arith, common_steps)

same_order-self : (a : OrderNumber) → same_order a a ≡ true
same_order-self a = grind (arith, common_steps)

-- a row that is marked stands
pub stands-marked : (sections : List Section) (e : Entry) (found : Option Mark) → option_map_or (is_own sections e) found false ≡ true → option_map_or (is_present sections) found false ≡ true
stands-marked sections e None is = is
stands-marked sections e (Some m) is = grind arith

-- what a mark gives where it is found
pub marked-found : (sections : List Section) (orders : Orders) (e : Entry) (m : Mark) → get same_order orders e.order ≡ Some m → is_marked sections orders e ≡ is_own sections e m
marked-found sections orders e m got = rw got refl

-- a mark that is present is of one of the sections
present-within : (sections : List Section) (m : Mark) → is_present sections m ≡ true → m.section < length sections
present-within sections m is = at (slice_get sections m.section) refl is
  where
    at : (found : Option Section) → slice_get sections m.section ≡ found → option_map_or (λ s. s.epoch == m.epoch) found false ≡ true → m.section < length sections
    at None own on = cc
    at (Some s) own on = slice_get_within sections m.section s own

-- ---- a removal

-- rows of other groups and kinds are of other sections
pub others-section : (g k n : ℕ) (e : Entry) → section_number g k ≡ Some n → others g k e ≡ true → section_number e.group e.kind ≢ Some n
others-section g k n e number is = λ own. let s = section_number-same g k e.group e.kind n number own in grind (arith, common_steps)

section-others : (g k n : ℕ) (e : Entry) → section_number g k ≡ Some n → section_number e.group e.kind ≢ Some n → others g k e ≡ true
section-others g k n e number apart = grind (arith, common_steps)

-- a row of another section stays marked
pub marked-apart : (sections : List Section) (n : ℕ) (v : Section) (e : Entry) (found : Option Mark) → section_number e.group e.kind ≢ Some n → option_map_or (is_own sections e) found false ≡ true → option_map_or (is_own (set sections n v) e) found false ≡ true
marked-apart sections n v e None apart is = is
marked-apart sections n v e (Some m) apart is =
    let own : section_number e.group e.kind ≡ Some m.section = grind (arith, common_steps) in
    let other : m.section ≢ n = λ s. apart (own ∙ ap Some s) in
    rw (slice_get-set_other sections n v m.section other) is

pub standing-after_removal : (sections : List Section) (orders : Orders) (rows : List Entry) (g k n : ℕ) (s : Section) → section_number g k ≡ Some n → slice_get sections n ≡ Some s → Keeps sections orders rows
    → (o : OrderNumber) (found : Option Mark) → get same_order orders o ≡ found → option_map_or (is_present (set sections n (empty_section (s.epoch + 1)))) found false ≡ true → has_order o (filter (others g k) rows) ≡ true
standing-after_removal sections orders rows g k n s number own keeps o None got is = cc
standing-after_removal sections orders rows g k n s number own keeps o (Some m) got is =
    let next = empty_section (s.epoch + 1) in
    let after = set sections n next in
    let present : is_present after m ≡ true = is in
    ⊎_elim (λ same.
    let past = keeps.epochs o m s got (rw same own) in
    let now : slice_get after m.section ≡ Some next = rw same (slice_get-set_same sections n next (slice_get_within sections n s own)) in
    let gone : (s.epoch + 1 == m.epoch) ≡ true = rw now at present in
    let e : s.epoch + 1 ≡ m.epoch = grind (arith, common_steps) in
    absurd (omega arith)) (λ apart.
    let stood : is_present sections m ≡ true = rw (slice_get-set_other sections n next m.section apart) at present in
    let stands : option_map_or (is_present sections) (get same_order orders o) false ≡ true = rw got stood in
    any_filtered (of_order o) (is_marked sections orders) (others g k) (λ e of marked.
    let there : get same_order orders e.order ≡ Some m = rw (same_order-same e.order o of) got in
    let is_own : is_own sections e m ≡ true = rw there at marked in
    let section : section_number e.group e.kind ≡ Some m.section = grind (arith, common_steps) in
    section-others g k n e number (λ s. apart (grind (arith, common_steps)))) rows (keeps.numbers o stands) keeps.marks) (cases_eq m.section n)

-- where there is no section of a group and kind, a removal takes nothing
pub filter-no_section : (sections : List Section) (orders : Orders) (rows : List Entry) (g k : ℕ) → ((n : ℕ) → section_number g k ≡ Some n → length sections ≤ n) → list_all (is_marked sections orders) rows ≡ true → filter (others g k) rows ≡ rows
filter-no_section sections orders rows g k none marked =
    filter_all (others g k) rows (all_weaker (is_marked sections orders) (others g k) (λ e is. apart e (get same_order orders e.order) is) rows marked)
  where
    apart : (e : Entry) (found : Option Mark) → option_map_or (is_own sections e) found false ≡ true → others g k e ≡ true
    apart e None is = cc
    apart e (Some m) is =
        let own : section_number e.group e.kind ≡ Some m.section = grind (arith, common_steps) in
        let within : m.section < length sections = present-within sections m (grind (arith, common_steps)) in
        ⊎_elim (λ of.
        let same : section_number g k ≡ Some m.section = grind (arith, common_steps) in
        absurd (omega (arith, none m.section same))) (λ other. grind (arith, common_steps)) (cases_Bool (of_kind g k e))

-- ---- one row more

-- a section that keeps its epoch keeps its marks
present-same : (sections : List Section) (n : ℕ) (s new : Section) → slice_get sections n ≡ Some s → new.epoch ≡ s.epoch → (m : Mark) → is_present (set sections n new) m ≡ is_present sections m
present-same sections n s new own epoch m =
    ⊎_elim (λ same.
    let now : slice_get (set sections n new) m.section ≡ Some new = rw same (slice_get-set_same sections n new (slice_get_within sections n s own)) in
    let was : slice_get sections m.section ≡ Some s = rw same own in
    rw (now, was, epoch) refl) (λ apart. rw (slice_get-set_other sections n new m.section apart) refl) (cases_eq m.section n)

-- a row that is marked stays so
pub marked-after_addition : (sections : List Section) (orders new_orders : Orders) (o : OrderNumber) (m : Mark) (n : ℕ) (s new : Section) → slice_get sections n ≡ Some s → new.epoch ≡ s.epoch → Marks sections o m orders new_orders
    → (x : Entry) (found : Option Mark) → get same_order orders x.order ≡ found → option_map_or (is_own sections x) found false ≡ true → is_marked (set sections n new) new_orders x ≡ true
marked-after_addition sections orders new_orders o m n s new own epoch marks x None got is = cc
marked-after_addition sections orders new_orders o m n s new own epoch marks x (Some f) got is =
    let after = set sections n new in
    let present = present-same sections n s new own epoch f in
    let still : is_own after x f ≡ true = rw present is in
    let now = marks.lookup x.order in
    ⊎_elim (λ same.
    let found : get same_order orders o ≡ Some f = rw (same_order-same o x.order same) got in
    let free = rw found at marks.free in
    let one : f ≡ m = grind (arith, common_steps) in
    marked-found after new_orders x f (now ∙ rw same (ap Some (sym one))) ∙ still) (λ apart.
    marked-found after new_orders x f (now ∙ rw apart got) ∙ still) (cases_Bool (same_order o x.order))

-- the row's own order number is marked
pub marked-added : (sections : List Section) (orders new_orders : Orders) (e : Entry) (n : ℕ) (s new : Section) → section_number e.group e.kind ≡ Some n → slice_get sections n ≡ Some s → new.epoch ≡ s.epoch
    → Marks sections e.order (record { section = n; epoch = s.epoch }) orders new_orders → is_marked (set sections n new) new_orders e ≡ true
marked-added sections orders new_orders e n s new number own epoch marks =
    let m : Mark = record { section = n; epoch = s.epoch } in
    let got : get same_order new_orders e.order ≡ Some m = marks.lookup e.order ∙ rw (same_order-self e.order) refl in
    let now : slice_get (set sections n new) n ≡ Some new = slice_get-set_same sections n new (slice_get_within sections n s own) in
    marked-found (set sections n new) new_orders e m got ∙ rw (now, number, epoch) (grind (arith, common_steps))

pub standing-after_addition : (sections : List Section) (orders new_orders : Orders) (rows : List Entry) (e : Entry) (m : Mark) (n : ℕ) (s new : Section) → slice_get sections n ≡ Some s → new.epoch ≡ s.epoch
    → Marks sections e.order m orders new_orders → ((o : OrderNumber) → stands sections orders o ≡ true → has_order o rows ≡ true)
    → (o : OrderNumber) → stands (set sections n new) new_orders o ≡ true → has_order o (rows ++ e ∷ []) ≡ true
standing-after_addition sections orders new_orders rows e m n s new own epoch marks standing o is =
    let more = list_any-append (of_order o) rows (e ∷ []) in
    let now = marks.lookup o in
    ⊎_elim (λ same. let of : of_order o e ≡ true = same in grind (arith, common_steps)) (λ apart.
    let got : get same_order new_orders o ≡ get same_order orders o = rw apart at now in
    let there = standing o (still (get same_order orders o) (rw got at is)) in
    grind (arith, common_steps)) (cases_Bool (same_order e.order o))
  where
    still : (found : Option Mark) → option_map_or (is_present (set sections n new)) found false ≡ true → option_map_or (is_present sections) found false ≡ true
    still None on = on
    still (Some f) on = sym (present-same sections n s new own epoch f) ∙ on

pub past-after_addition : (sections : List Section) (orders new_orders : Orders) (o : OrderNumber) (n : ℕ) (s new : Section) → slice_get sections n ≡ Some s → new.epoch ≡ s.epoch
    → Marks sections o (record { section = n; epoch = s.epoch }) orders new_orders
    → ((q : OrderNumber) (m : Mark) (l : Section) → get same_order orders q ≡ Some m → slice_get sections m.section ≡ Some l → m.epoch ≤ l.epoch)
    → (q : OrderNumber) (m : Mark) (l : Section) → get same_order new_orders q ≡ Some m → slice_get (set sections n new) m.section ≡ Some l → m.epoch ≤ l.epoch
past-after_addition sections orders new_orders o n s new own epoch marks past q m l got found =
    let now = marks.lookup q in
    let there = read_after sections n new m.section l (slice_get_within sections n s own) found in
    ⊎_elim (λ same.
    let one : m ≡ record { section = n; epoch = s.epoch } = same_Some _ _ (sym got ∙ now ∙ rw same refl) in
    ⊎_elim (λ here. let e = ap (λ x. x.epoch) here.1 in let f = ap (λ x. x.epoch) one in omega arith) (λ other. absurd (other.0 (ap (λ x. x.section) one))) there) (λ apart.
    let was : get same_order orders q ≡ Some m = sym (rw apart at now) ∙ got in
    ⊎_elim (λ here. let e = ap (λ x. x.epoch) here.1 in let p = past q m s was (rw here.0 own) in omega arith) (λ other. past q m l was other.1) there) (cases_Bool (same_order o q))
