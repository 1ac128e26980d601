-- The words of an index: what it keeps of a ledger's rows, and what it can take. Assumes nothing.
use Rattle.std.specs.Prelude.{◌≡◌, ℕ, ◌+◌, ◌*◌, ◌^◌, ◌<◌, ◌≤◌, Bool, true, false, not, cond, ◌&&◌, ◌||◌, ◌==◌, nat_lt, List, length, replicate, slice_get, slice_set, slice_index_or, Option, Some, None, option_and_then}
use Rattle.std.specs.List.{list_all}
use Rattle.std.specs.Option.{option_map_or}
use Rattle.std.specs.declared.hash.FoldHasher.{FoldHasher}
use Rattle.std.specs.declared.hash.BuildHasherDefault.{BuildHasherDefault}
use Rattle.std.specs.HashMap.{get, HashMap}
use Rattle.ledger.specs.declared.row.Entry.{Entry}
use Rattle.ledger.specs.declared.row.Held.{Held}
use Rattle.ledger.specs.declared.row.OrderNumber.{OrderNumber}
use Rattle.ledger.specs.declared.row.Pick.{Pick}
use Rattle.ledger.specs.Rows.{of_kind, of_order, has_order, held_for, held_with}
use Rattle.indexed.specs.declared.index.TheConstants.{ORDER_TYPES}
use Rattle.indexed.specs.declared.index.Index.{Index}
use Rattle.indexed.specs.declared.index.Mark.{Mark}
use Rattle.indexed.specs.declared.index.Section.{Section}

-- ---- sections: one for each group and kind

abbrev pub section_number : ℕ → ℕ → Option ℕ
section_number g k = cond (k == 0) (Some (2 * g)) (cond (k == 2) (Some (2 * g + 1)) None)

abbrev pub section_of : List Section → ℕ → ℕ → Option Section
section_of sections g k = option_and_then (slice_get sections) (section_number g k)

-- a section has an order type
abbrev pub has_type : Option ℕ → Bool
has_type t = option_map_or (λ n. nat_lt n ORDER_TYPES) t true

-- a pick is of one of so many sections, and of an order type that they have
abbrev pub has_place : ℕ → Pick → Bool
has_place n pick = option_map_or (λ s. nat_lt s n) (section_number pick.group pick.kind) false && has_type pick.order_type

abbrev pub nothing : Held
nothing = record { quantity = 0; amount = 0 }

abbrev pub empty_section : ℕ → Section
empty_section epoch = record { epoch = epoch; all = nothing; by_type = replicate ORDER_TYPES nothing }

-- what a section holds, all or of an order type
abbrev pub section_held : Section → Option ℕ → Option Held
section_held s None = Some s.all
section_held s (Some t) = slice_get s.by_type t

-- what the sections hold of a pick, where it has a place
abbrev pub held_in : List Section → Pick → Option Held
held_in sections pick = option_and_then (λ s. section_held s pick.order_type) (section_of sections pick.group pick.kind)

-- the sums with one entry more fit 128 bits
abbrev pub fits : Held → Entry → Bool
fits h e = nat_lt (h.quantity + e.quantity) (2 ^ 128) && nat_lt (h.amount + e.quantity * e.price) (2 ^ 128)

-- a section has the entry's order type, and its sums stay small enough
abbrev pub has_room : Section → Entry → Bool
has_room s e = nat_lt e.order_type ORDER_TYPES && fits s.all e && fits (slice_index_or s.by_type e.order_type nothing) e

-- one entry more in a section
pub record AddsTo (e : Entry) (old new : Section) : Type 0 where
  pub within : e.order_type < length old.by_type
  pub epoch : new.epoch ≡ old.epoch
  pub all : new.all ≡ held_with old.all e
  pub by_type : new.by_type ≡ slice_set old.by_type e.order_type (held_with (slice_index_or old.by_type e.order_type nothing) e)

-- ---- order numbers

abbrev pub Orders : Type 0
Orders = HashMap OrderNumber Mark (BuildHasherDefault FoldHasher)

abbrev pub same_order : OrderNumber → OrderNumber → Bool
same_order a b = a.first == b.first && a.rest == b.rest

-- a mark is of its section's present epoch
abbrev pub is_present : List Section → Mark → Bool
is_present sections m = option_map_or (λ s. s.epoch == m.epoch) (slice_get sections m.section) false

-- an order number has a present mark
abbrev pub stands : List Section → Orders → OrderNumber → Bool
stands sections orders o = option_map_or (is_present sections) (get same_order orders o) false

abbrev pub same_mark : Mark → Mark → Bool
same_mark a b = a.section == b.section && a.epoch == b.epoch

-- an order number stands under no other mark
abbrev pub is_free : List Section → Orders → OrderNumber → Mark → Bool
is_free sections orders o m = option_map_or (λ f. not (is_present sections f) || same_mark f m) (get same_order orders o) true

-- an order number that is free gets a mark
pub record Marks (sections : List Section) (o : OrderNumber) (m : Mark) (old new : Orders) : Type 0 where
  pub free : is_free sections old o m ≡ true
  pub lookup : (q : OrderNumber) → get same_order new q ≡ cond (same_order o q) (Some m) (get same_order old q)

-- an entry's order number has a present mark of the entry's own section
abbrev pub is_own : List Section → Entry → Mark → Bool
is_own sections e m = is_present sections m && option_map_or (λ s. s == m.section) (section_number e.group e.kind) false

abbrev pub is_marked : List Section → Orders → Entry → Bool
is_marked sections orders e = option_map_or (is_own sections e) (get same_order orders e.order) false

-- ---- the index

-- What is kept of the rows: what each pick holds, and that the order numbers that stand are those of the rows, each of one section.
-- No mark is past its section's epoch, so that a higher epoch has none.
pub record Keeps (sections : List Section) (orders : Orders) (rows : List Entry) : Type 0 where
  pub sums : (pick : Pick) (h : Held) → held_in sections pick ≡ Some h → h ≡ held_for pick rows
  pub marks : list_all (is_marked sections orders) rows ≡ true
  pub numbers : (o : OrderNumber) → stands sections orders o ≡ true → has_order o rows ≡ true
  pub epochs : (o : OrderNumber) (m : Mark) (s : Section) → get same_order orders o ≡ Some m
      → slice_get sections m.section ≡ Some s → m.epoch ≤ s.epoch

abbrev pub Holds : Index → List Entry → Type 0
Holds x rows = Keeps x.sections.items x.orders rows

-- an index that is known holds the rows
abbrev pub Tells : Index → List Entry → Type 0
Tells x rows = x.known ≡ true → Holds x rows

abbrev pub section_count : Index → ℕ
section_count x = length x.sections.items

-- an answer, where it is known
abbrev pub answer_if : {X : Type 0} → Bool → X → Option X
answer_if known x = cond known (Some x) None

-- an index knows what a pick holds
abbrev pub covers : Index → Pick → Bool
covers x pick = x.known && has_place (section_count x) pick

-- ---- what an index can take

-- an entry's group and kind, and with its order type
abbrev pub kind_of : Entry → Pick
kind_of e = record { group = e.group; kind = e.kind; order_type = None }

abbrev pub type_of : Entry → Pick
type_of e = record { group = e.group; kind = e.kind; order_type = Some e.order_type }

-- a row is of an entry's group and kind, where it has the entry's order number
abbrev pub agrees_with : Entry → Entry → Bool
agrees_with e row = not (of_order e.order row) || of_kind e.group e.kind row

-- an index of so many sections can take an entry behind the rows
abbrev pub takes : ℕ → List Entry → Entry → Bool
takes n rows e = has_place n (type_of e) && list_all (agrees_with e) rows
    && fits (held_for (kind_of e) rows) e && fits (held_for (type_of e) rows) e

-- an index is known, and stays so with an entry behind the rows
abbrev pub is_known_with : Index → List Entry → Entry → Bool
is_known_with x rows e = x.known && takes (section_count x) rows e

-- an index is known, and can raise the epoch of a group and kind, where it has a section of them
abbrev pub is_known_without : Index → ℕ → ℕ → Bool
is_known_without x g k = x.known && option_map_or (λ s. nat_lt (s.epoch + 1) (2 ^ 64)) (section_of x.sections.items g k) true
