-- Which entries an index can take, by the rows that it keeps. Assumes nothing.
use Rattle.std.proofs.Common.{◌≡◌, ℕ, ◌<◌, Bool, true, false, not, ◌&&◌, ◌||◌, ◌==◌, nat_lt, List, Option, Some, None, length, get_or, refl, sym, ap, ◌∙◌, ⊎_elim, arith}
use Rattle.std.specs.List.{list_all, slice_get}
use Rattle.std.specs.Option.{option_map_or}
use Rattle.std.specs.HashMap.{get}
use Rattle.std.proofs.lemmas.Bool.{cases_Bool, false≢true}
use Rattle.std.proofs.lemmas.Option.{slice_get-get_or, slice_get_within}
use Rattle.std.proofs.lemmas.Grind.{common_steps}
use Rattle.ledger.specs.declared.row.Entry.{Entry}
use Rattle.ledger.specs.Rows.{of_order, of_kind, held_for}
use Rattle.indexed.specs.declared.index.Mark.{Mark}
use Rattle.indexed.specs.declared.index.TheConstants.{ORDER_TYPES}
use Rattle.indexed.specs.declared.index.Section.{Section}
use Rattle.indexed.specs.Index.{section_number, nothing, has_place, Orders, same_order, is_present, is_free, is_own, is_marked, agrees_with, kind_of, type_of, fits, has_room, takes, Keeps}
use Rattle.indexed.proofs.Lists.{any_and_all, all_weaker, all_both}
use Rattle.indexed.proofs.Sections.{section_number-same, held_in-section}
use Rattle.indexed.proofs.OrderNumbers.{same_order-same, stands-marked}

-- a marked row that has an order number has the mark that is found under it
own-found : (sections : List Section) (orders : Orders) (e x : Entry) (found : Option Mark) → get same_order orders e.order ≡ found → of_order e.order x ≡ true → is_marked sections orders x ≡ true → option_map_or (is_own sections x) found false ≡ true
own-found sections orders e x found got of marked = rw (← got, ← same_order-same x.order e.order of) marked

-- an order number is free for an entry exactly where each row that has it is of the entry's group and kind
pub is_free-agrees : (sections : List Section) (orders : Orders) (rows : List Entry) (e : Entry) (n : ℕ) (s : Section) → section_number e.group e.kind ≡ Some n → slice_get sections n ≡ Some s → Keeps sections orders rows
    → is_free sections orders e.order (record { section = n; epoch = s.epoch }) ≡ list_all (agrees_with e) rows
is_free-agrees sections orders rows e n s number own keeps = at (get same_order orders e.order) refl
  where
    none : (found : Option Mark) → get same_order orders e.order ≡ found → option_map_or (is_present sections) found false ≡ false → list_all (agrees_with e) rows ≡ true
    none found got absent =
        all_weaker (is_marked sections orders) (agrees_with e) (λ x marked.
        ⊎_elim (λ of. absurd (false≢true (sym absent ∙ stands-marked sections x found (own-found sections orders e x found got of marked)))) (λ other. grind arith) (cases_Bool (of_order e.order x))) rows keeps.marks

    one : (f : Mark) → get same_order orders e.order ≡ Some f → f.section ≡ n → list_all (agrees_with e) rows ≡ true
    one f got same =
        all_weaker (is_marked sections orders) (agrees_with e) (λ x marked.
        ⊎_elim (λ of.
        let own : is_own sections x f ≡ true = own-found sections orders e x (Some f) got of marked in
        let at : section_number x.group x.kind ≡ Some n = grind (arith, common_steps) in
        let alike = section_number-same e.group e.kind x.group x.kind n number at in
        grind (arith, common_steps)) (λ other. grind arith) (cases_Bool (of_order e.order x))) rows keeps.marks

    only : (f : Mark) → get same_order orders e.order ≡ Some f → is_present sections f ≡ true → list_all (agrees_with e) rows ≡ true → (f.section == n && f.epoch == s.epoch) ≡ true
    only f got present along =
        any_and_all (of_order e.order) (λ x. is_marked sections orders x && agrees_with e x) (f.section == n && f.epoch == s.epoch) (λ x of both.
        let own : is_own sections x f ≡ true = own-found sections orders e x (Some f) got of (grind arith) in
        let kind : of_kind e.group e.kind x ≡ true = grind arith in
        let at : section_number x.group x.kind ≡ Some n = grind (arith, common_steps) in
        let same : f.section ≡ n = grind (arith, common_steps) in
        let there : slice_get sections f.section ≡ Some s = rw same own_section in
        let epoch : (s.epoch == f.epoch) ≡ true = rw there at present in
        grind (arith, common_steps)) rows (keeps.numbers e.order (rw got present)) (all_both (is_marked sections orders) (agrees_with e) rows keeps.marks along)
      where
        own_section : slice_get sections n ≡ Some s
        own_section = own

    at : (found : Option Mark) → get same_order orders e.order ≡ found → option_map_or (λ f. not (is_present sections f) || (f.section == n && f.epoch == s.epoch)) found true ≡ list_all (agrees_with e) rows
    at None got = sym (none None got refl)
    at (Some f) got =
        let o = only f got in
        ⊎_elim (λ present.
        ⊎_elim (λ same. let l = one f got (grind (arith, common_steps)) in grind arith) (λ apart. ⊎_elim (λ along. let e = only f got present along in grind arith) (λ not_along. grind arith) (cases_Bool (list_all (agrees_with e) rows))) (cases_Bool (f.section == n && f.epoch == s.epoch)))
        (λ absent. let l = none (Some f) got absent in grind arith) (cases_Bool (is_present sections f))

regroup : (p l a b c d : Bool) → (p ≡ true → (a ≡ c) × (b ≡ d)) → (p && l && a && b) ≡ (l && (p && c && d))
regroup true true a b c d same = let k = same refl in grind arith
regroup true false a b c d same = refl
regroup false true a b c d same = refl
regroup false false a b c d same = refl

-- what an index can take, by its sections and marks
pub takes-is : (sections : List Section) (orders : Orders) (rows : List Entry) (e : Entry) (n : ℕ) (s : Section) → section_number e.group e.kind ≡ Some n → slice_get sections n ≡ Some s → length s.by_type ≡ ORDER_TYPES → Keeps sections orders rows
    → takes (length sections) rows e ≡ (is_free sections orders e.order (record { section = n; epoch = s.epoch }) && has_room s e)
takes-is sections orders rows e n s number own types keeps =
    let within : n < length sections = slice_get_within sections n s own in
    let place : has_place (length sections) (type_of e) ≡ nat_lt e.order_type ORDER_TYPES = rw number (grind arith) in
    let all : s.all ≡ held_for (kind_of e) rows = keeps.sums (kind_of e) s.all (held_in-section sections (kind_of e) n s number own) in
    let typed : nat_lt e.order_type ORDER_TYPES ≡ true → get_or s.by_type e.order_type nothing ≡ held_for (type_of e) rows = λ few. keeps.sums (type_of e) (get_or s.by_type e.order_type nothing) (held_in-section sections (type_of e) n s number own ∙ slice_get-get_or s.by_type e.order_type nothing (grind arith)) in
    rw (place, is_free-agrees sections orders rows e n s number own keeps) (regroup _ _ _ _ _ _ (λ few. (ap (λ h. fits h e) (sym all), ap (λ h. fits h e) (sym (typed few)))))
