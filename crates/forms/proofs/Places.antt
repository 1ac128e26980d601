-- Fields of a layout: by their item, and within their record.
use Rattle.std.proofs.Common.{◌≡◌, ℕ, ◌+◌, ◌≤◌, Bool, true, false, cond, eqb, List, [], ◌∷◌, length, get_or, Some, refl, ap, ◌∙◌, sym, subst, arith, length-take, length-drop}
use Rattle.std.proofs.lemmas.Bool.{and_parts, eqb-true}
use Rattle.std.proofs.lemmas.Option.{same_Some}
use Rattle.layout.specs.Items.{item_number, same_item}
use Rattle.layout.specs.Layouts.{part_of, field_of, tiles, width_of}
use Rattle.layout.specs.declared.field.Item.{Item}
use Rattle.layout.specs.declared.field.Item.TheVariants.{Broker, Account, Security, Side, Kind, Date, Order, NewBroker, NewAccount, Quantity, Amount, OrderType, Code, TradeNumber, Price, RunningQuantity, RunningAmount, TypeQuantity, TypeAmount, ErrorCode, Message, Filler}
use Rattle.layout.specs.declared.field.Field.{Field}
use Rattle.layout.proofs.Widths.{tiles-width}

-- the items by their numbers
abbrev items : List Item
items = Broker ∷ Account ∷ Security ∷ Side ∷ Kind ∷ Date ∷ Order ∷ NewBroker ∷ NewAccount ∷ Quantity ∷ Amount ∷ OrderType ∷ Code ∷ TradeNumber ∷ Price ∷ RunningQuantity ∷ RunningAmount ∷ TypeQuantity ∷ TypeAmount ∷ ErrorCode ∷ Message ∷ Filler ∷ []

item_at : (i : Item) → get_or items (item_number i) Filler ≡ i
item_at Broker = refl
item_at Account = refl
item_at Security = refl
item_at Side = refl
item_at Kind = refl
item_at Date = refl
item_at Order = refl
item_at NewBroker = refl
item_at NewAccount = refl
item_at Quantity = refl
item_at Amount = refl
item_at OrderType = refl
item_at Code = refl
item_at TradeNumber = refl
item_at Price = refl
item_at RunningQuantity = refl
item_at RunningAmount = refl
item_at TypeQuantity = refl
item_at TypeAmount = refl
item_at ErrorCode = refl
item_at Message = refl
item_at Filler = refl

pub one_item : (i j : Item) → same_item i j ≡ true → i ≡ j
one_item i j h = sym (item_at i) ∙ ap (λ n. get_or items n Filler) (eqb-true (item_number i) (item_number j) h) ∙ item_at j

-- either the field at the front is the one, or it is further behind
pub found : {P : Type 0} (g : Field) (i : Item) (gs : List Field) (f : Field) → field_of i (g ∷ gs) ≡ Some f → (g.item ≡ i → g ≡ f → P) → (field_of i gs ≡ Some f → P) → P
found {P} g i gs f h here there = go (same_item g.item i) refl h
  where
    go : (t : Bool) → same_item g.item i ≡ t → cond t (Some g) (field_of i gs) ≡ Some f → P
    go true e s = here (one_item g.item i e) (same_Some g f s)
    go false e s = there s

pub item_of : (i : Item) (fs : List Field) (f : Field) → field_of i fs ≡ Some f → f.item ≡ i
item_of i [] f h = grind arith
item_of i (g ∷ gs) f h = found g i gs f h (λ e s. subst (λ x. x.item ≡ i) s e) (λ s. item_of i gs f s)

-- a field of fields that stand from byte k on and end before byte n
pub within : (i : Item) (fs : List Field) (f : Field) (k n : ℕ) → tiles k fs n ≡ true → field_of i fs ≡ Some f → (k ≤ f.first) × (f.first + f.width ≤ n)
within i [] f k n t h = grind arith
within i (g ∷ gs) f k n t h =
    let u = and_parts (eqb g.first k) (tiles (k + g.width) gs n) t in
    let e = eqb-true g.first k u.0 in
    let w : k + g.width + width_of gs ≡ n = tiles-width gs (k + g.width) n u.1 in
    found g i gs f h (λ _ s. subst (λ x. (k ≤ x.first) × (x.first + x.width ≤ n)) s (omega arith, omega arith)) (λ s. let r = within i gs f (k + g.width) n u.1 s in (omega arith, r.1))

-- a field's part of a record that is long enough is as wide as the field
pub length-part : (f : Field) (n : ℕ) (r : List ℕ) → 1 ≤ f.first → f.first + f.width ≤ n + 1 → length r ≡ n → length (part_of f r) ≡ f.width
length-part f n r a b e = simp (length-take, length-drop) (omega arith)
