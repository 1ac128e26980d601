-- What the sections hold of a pick, from call to call. Assumes nothing.
use Rattle.std.proofs.Common.{◌≡◌, ℕ, ◌*◌, ◌<◌, Bool, true, false, not, cond, ◌&&◌, ◌==◌, List, [], ◌∷◌, ◌++◌, Option, Some, None, length, get_or, filter, replicate, set, sum_by, refl, ap, ◌∙◌, ⊎_elim, arith}
use Rattle.std.specs.List.{slice_get}
use Rattle.std.specs.Option.{option_and_then}
use Rattle.std.proofs.lemmas.List.Sums.{sum_by_push}
use Rattle.std.proofs.lemmas.Option.{slice_get-get_or, slice_get_within}
use Rattle.std.proofs.lemmas.Grind.{common_steps}
use Rattle.ledger.specs.declared.row.Entry.{Entry}
use Rattle.ledger.specs.declared.row.Held.{Held}
use Rattle.ledger.specs.declared.row.Pick.{Pick}
use Rattle.ledger.specs.Rows.{of_type, held_for, held_with, others, picked}
use Rattle.indexed.specs.declared.index.TheConstants.{ORDER_TYPES}
use Rattle.indexed.specs.declared.index.Section.{Section}
use Rattle.indexed.specs.Index.{section_number, section_held, nothing, empty_section, held_in, AddsTo}
use Rattle.indexed.proofs.Lists.{slice_get-replicate, read_after}

-- two groups and kinds of one section are the same
pub section_number-same : (g k h l n : ℕ) → section_number g k ≡ Some n → section_number h l ≡ Some n → (h ≡ g) × (l ≡ k)
section_number-same g k h l n a b = (grind (arith, common_steps), grind (arith, common_steps))

-- what is held of a pick is held by its section
pub held_in-section : (sections : List Section) (pick : Pick) (n : ℕ) (s : Section) → section_number pick.group pick.kind ≡ Some n → slice_get sections n ≡ Some s → held_in sections pick ≡ section_held s pick.order_type
held_in-section sections pick n s number own = rw (number, own) refl

record HeldBy (sections : List Section) (pick : Pick) (h : Held) : Type 0 where
  n : ℕ
  s : Section
  number : section_number pick.group pick.kind ≡ Some n
  own : slice_get sections n ≡ Some s
  holds : section_held s pick.order_type ≡ Some h

held_by_section : (sections : List Section) (pick : Pick) (h : Held) → held_in sections pick ≡ Some h → HeldBy sections pick h
held_by_section sections pick h is = numbered (section_number pick.group pick.kind) refl is
  where
    found_at : (n : ℕ) (found : Option Section) → section_number pick.group pick.kind ≡ Some n → slice_get sections n ≡ found → option_and_then (λ s. section_held s pick.order_type) found ≡ Some h → HeldBy sections pick h
    found_at n None number own holds = cc
    found_at n (Some s) number own holds = record { n = n; s = s; number = number; own = own; holds = holds }

    numbered : (found : Option ℕ) → section_number pick.group pick.kind ≡ found → option_and_then (λ s. section_held s pick.order_type) (option_and_then (slice_get sections) found) ≡ Some h → HeldBy sections pick h
    numbered None number holds = cc
    numbered (Some n) number holds = found_at n (slice_get sections n) number refl holds

-- an empty section holds nothing
held-empty : (epoch : ℕ) (t : Option ℕ) (h : Held) → section_held (empty_section epoch) t ≡ Some h → h ≡ nothing
held-empty epoch None h is = cc
held-empty epoch (Some t) h is = slice_get-replicate ORDER_TYPES nothing t h is

pub held-none : (n epoch : ℕ) (pick : Pick) (h : Held) → held_in (replicate n (empty_section epoch)) pick ≡ Some h → h ≡ held_for pick []
held-none n epoch pick h is =
    let at = held_by_section (replicate n (empty_section epoch)) pick h is in
    held-empty epoch pick.order_type h (rw (← slice_get-replicate n (empty_section epoch) at.n at.s at.own) at.holds)

-- ---- a removal

sum-filter_same : (f : Entry → ℕ) (p s : Entry → Bool) (b : Bool) → ((e : Entry) → p e ≡ true → s e ≡ b) → (rows : List Entry) → sum_by (λ e. cond (p e) (f e) 0) (filter s rows) ≡ cond b (sum_by (λ e. cond (p e) (f e) 0) rows) 0
sum-filter_same f p s true h [] = refl
sum-filter_same f p s false h [] = refl
sum-filter_same f p s b h (e ∷ rows) =
    let k = h e in
    let r = sum-filter_same f p s b h rows in
    grind (arith, common_steps)

-- what a removal leaves of a pick
held-removed : (pick : Pick) (g k : ℕ) (rows : List Entry) → held_for pick (filter (others g k) rows) ≡ cond (pick.group == g && pick.kind == k) nothing (held_for pick rows)
held-removed pick g k rows =
    let p = picked pick.group pick.kind pick.order_type in
    let same : (e : Entry) → p e ≡ true → others g k e ≡ not (pick.group == g && pick.kind == k) = λ e is. grind (arith, common_steps) in
    let q = sum-filter_same (λ e. e.quantity) p (others g k) _ same rows in
    let m = sum-filter_same (λ e. e.quantity * e.price) p (others g k) _ same rows in
    grind (arith, common_steps)

pub held-after_removal : (sections : List Section) (rows : List Entry) (g k n epoch : ℕ) → section_number g k ≡ Some n → n < length sections
    → ((pick : Pick) (h : Held) → held_in sections pick ≡ Some h → h ≡ held_for pick rows)
    → (pick : Pick) (h : Held) → held_in (set sections n (empty_section epoch)) pick ≡ Some h → h ≡ held_for pick (filter (others g k) rows)
held-after_removal sections rows g k n epoch number within holds pick h is =
    let at = held_by_section (set sections n (empty_section epoch)) pick h is in
    let left = held-removed pick g k rows in
    ⊎_elim (λ same.
    let alike = section_number-same g k pick.group pick.kind n number (at.number ∙ ap Some same.0) in
    let none : h ≡ nothing = held-empty epoch pick.order_type h (rw (← same.1) at.holds) in
    grind (arith, common_steps)) (λ other.
    let before : h ≡ held_for pick rows = holds pick h (held_in-section sections pick at.n at.s at.number other.1 ∙ at.holds) in
    let section = at.number in
    let apart : (pick.group == g && pick.kind == k) ≡ false = grind (arith, common_steps) in
    grind (arith, common_steps)) (read_after sections n (empty_section epoch) at.n at.s within at.own)

-- ---- one row more

held-push : (pick : Pick) (rows : List Entry) (e : Entry) → held_for pick (rows ++ e ∷ []) ≡ cond (picked pick.group pick.kind pick.order_type e) (held_with (held_for pick rows) e) (held_for pick rows)
held-push pick rows e =
    let p = picked pick.group pick.kind pick.order_type in
    let q = sum_by_push (λ x. cond (p x) x.quantity 0) rows e in
    let m = sum_by_push (λ x. cond (p x) (x.quantity * x.price) 0) rows e in
    grind (arith, common_steps)

-- what a section holds with one entry more
held-added : (e : Entry) (s new : Section) → AddsTo e s new → (t : Option ℕ) (h : Held) → section_held new t ≡ Some h → (v : Held) × (section_held s t ≡ Some v) × (h ≡ cond (of_type t e) (held_with v e) v)
held-added e s new adds None h is = (s.all, refl, let a = adds.all in cc)
held-added e s new adds (Some t) h is =
    let at : slice_get (set s.by_type e.order_type (held_with (get_or s.by_type e.order_type nothing) e)) t ≡ Some h = rw (← adds.by_type) is in
    ⊎_elim (λ same.
    let there = slice_get-get_or s.by_type e.order_type nothing adds.within in
    (get_or s.by_type e.order_type nothing, rw same.0 there, grind (arith, common_steps)))
    (λ other. (h, other.1, grind (arith, common_steps)))
    (read_after s.by_type e.order_type _ t h adds.within at)

pub held-after_addition : (sections : List Section) (rows : List Entry) (e : Entry) (n : ℕ) (s new : Section) → section_number e.group e.kind ≡ Some n → slice_get sections n ≡ Some s → AddsTo e s new
    → ((pick : Pick) (h : Held) → held_in sections pick ≡ Some h → h ≡ held_for pick rows)
    → (pick : Pick) (h : Held) → held_in (set sections n new) pick ≡ Some h → h ≡ held_for pick (rows ++ e ∷ [])
held-after_addition sections rows e n s new number own adds holds pick h is =
    let at = held_by_section (set sections n new) pick h is in
    let more = held-push pick rows e in
    let section = at.number in
    ⊎_elim (λ same.
    let alike = section_number-same e.group e.kind pick.group pick.kind n number (at.number ∙ ap Some same.0) in
    let added = held-added e s new adds pick.order_type h (rw (← same.1) at.holds) in
    let before : added.0 ≡ held_for pick rows = holds pick added.0 (held_in-section sections pick n s (at.number ∙ ap Some same.0) own ∙ added.1) in
    let with = added.2 in
    grind (arith, common_steps)) (λ other.
    let before : h ≡ held_for pick rows = holds pick h (held_in-section sections pick at.n at.s at.number other.1 ∙ at.holds) in
    let apart : (e.group == pick.group && e.kind == pick.kind) ≡ false = grind (arith, common_steps) in
    grind (arith, common_steps)) (read_after sections n new at.n at.s (slice_get_within sections n s own) at.own)
