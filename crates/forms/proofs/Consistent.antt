-- What a family's rows show, as its consistency says.
use Rattle.std.proofs.Common.{◌≡◌, ◌≢◌, ⊎_elim, Bool, true, false, not, eqb, ◌&&◌, ◌||◌, List, [], ◌∷◌, Some, None, Option, is_some, refl, ap, ◌∙◌, sym, subst, arith}
use Rattle.std.proofs.lemmas.Bool.{and_parts, or_cases, eqb-true, true≢false}
use Rattle.layout.specs.Items.{same_item}
use Rattle.layout.specs.Layouts.{field_of}
use Rattle.layout.specs.declared.field.Field.{Field}
use Rattle.layout.specs.declared.field.Item.{Item}
use Rattle.layout.specs.declared.field.Item.TheVariants.{NewBroker, Amount, OrderType, Code, ErrorCode, Message, Filler}
use Rattle.families.specs.Families.{answered, same_place, shown_alike, all_alike, tells, tells_none, numbers_fit, consistent}
use Rattle.families.specs.declared.family.Form.{Form}
use Rattle.families.specs.declared.family.Form.TheVariants.{Line, Reply, Row}
use Rattle.families.specs.declared.family.Rules.{Rules}
use Rattle.forms.proofs.Places.{found, one_item, item_of}

-- the parts of it
pub record Consistent (r : Rules) (layout : Form → List Field) : Type 0 where
  pub alike : all_alike (layout Line) (layout Reply) (layout Row) ≡ true
  pub no_amount : not (tells Amount (layout Row)) ≡ true
  pub no_code : not (tells Code (layout Row)) ≡ true
  pub no_error : not (tells ErrorCode (layout Row)) ≡ true
  pub no_message : not (tells Message (layout Row)) ≡ true
  pub new_broker : (not (tells NewBroker (layout Row)) || r.new_broker) ≡ true
  pub order_type : (not (tells OrderType (layout Row)) || r.order_type) ≡ true
  pub numbers : numbers_fit (layout Reply) ≡ true

pub consistent_parts : (r : Rules) (layout : Form → List Field) → consistent r layout ≡ true → Consistent r layout
consistent_parts r layout h =
    let a = all_alike (layout Line) (layout Reply) (layout Row) in
    let b = tells_none (Amount ∷ Code ∷ ErrorCode ∷ Message ∷ []) (layout Row) in
    let c = not (tells NewBroker (layout Row)) || r.new_broker in
    let d = not (tells OrderType (layout Row)) || r.order_type in
    let n = numbers_fit (layout Reply) in
    let t = and_parts a (b && (c && (d && n))) h in
    let u = and_parts b (c && (d && n)) t.1 in
    let v = and_parts c (d && n) u.1 in
    let w = and_parts d n v.1 in
    let x = and_parts (not (tells Amount (layout Row))) (tells_none (Code ∷ ErrorCode ∷ Message ∷ []) (layout Row)) u.0 in
    let y = and_parts (not (tells Code (layout Row))) (tells_none (ErrorCode ∷ Message ∷ []) (layout Row)) x.1 in
    let z = and_parts (not (tells ErrorCode (layout Row))) (tells_none (Message ∷ []) (layout Row)) y.1 in
    let m = and_parts (not (tells Message (layout Row))) true z.1 in
    record {
      alike = t.0;
      no_amount = x.0;
      no_code = y.0;
      no_error = z.0;
      no_message = m.0;
      new_broker = v.0;
      order_type = w.0;
      numbers = w.1;
    }

-- an item that is told is one of those that may be
tells_found : (i : Item) (fs : List Field) (f : Field) → field_of i fs ≡ Some f → tells i fs ≡ true
tells_found i fs f e = ap is_some e

pub not_told : (i : Item) (fs : List Field) (f : Field) → not (tells i fs) ≡ true → field_of i fs ≡ Some f → ⊥
not_told i fs f h e = true≢false (sym h ∙ ap not (tells_found i fs f e))

pub only_where : (i : Item) (fs : List Field) (f : Field) (has : Bool) → (not (tells i fs) || has) ≡ true → field_of i fs ≡ Some f → has ≡ true
only_where i fs f has h e = let s = tells_found i fs f e in sym (ap (λ t. not t || has) s) ∙ h

-- a field of a row is shown as the reply's
shown_of : (i : Item) (line reply row : List Field) (f : Field) → all_alike line reply row ≡ true → field_of i row ≡ Some f → (same_item f.item Filler || shown_alike line reply f) ≡ true
shown_of i line reply [] f h e = grind arith
shown_of i line reply (g ∷ gs) f h e =
    let t = and_parts (same_item g.item Filler || shown_alike line reply g) (all_alike line reply gs) h in
    found g i gs f e (λ _ s. subst (λ x. (same_item x.item Filler || shown_alike line reply x) ≡ true) s t.0) (λ s. shown_of i line reply gs f t.1 s)

-- A field of a row is as wide as the reply's, and where the reply does not answer the item, it repeats the line's own.
pub record Shown (i : Item) (line : List Field) (f g : Field) : Type 0 where
  pub width : f.width ≡ g.width
  pub repeated : answered i ≡ false → (h : Field) × (field_of i line ≡ Some h) × (h.first ≡ g.first) × (h.width ≡ g.width)

own_place : (i : Item) (line : List Field) (g : Field) (o : Option Field) → field_of i line ≡ o → same_place o g ≡ true → (h : Field) × (field_of i line ≡ Some h) × (h.first ≡ g.first) × (h.width ≡ g.width)
own_place i line g (Some h) e s =
    let t = and_parts (eqb h.first g.first) (eqb h.width g.width) s in
    (h, e, eqb-true h.first g.first t.0, eqb-true h.width g.width t.1)
own_place i line g None e s = absurd (true≢false (sym s))

pub shown_parts : (i : Item) (line reply row : List Field) (f g : Field) → all_alike line reply row ≡ true → (i ≢ Filler) → field_of i row ≡ Some f → field_of i reply ≡ Some g → Shown i line f g
shown_parts i line reply row f g h nf ef eg =
    let k = item_of i row f ef in
    let shown : shown_alike line reply f ≡ true =
    ⊎_elim (λ s. absurd (nf (sym k ∙ one_item f.item Filler s))) (λ s. s) (or_cases (same_item f.item Filler) (shown_alike line reply f) (shown_of i line reply row f h ef)) in
    let with_item : Item → Field = λ j. record { item = j; first = f.first; width = f.width } in
    let s : shown_alike line reply (with_item i) ≡ true = subst (λ j. shown_alike line reply (with_item j) ≡ true) k shown in
    let t = and_parts (eqb f.width g.width) (answered i || same_place (field_of i line) g) (rw (eg, shown_alike) at s) in
    record {
      width = eqb-true f.width g.width t.0;
      repeated = λ a. own_place i line g (field_of i line) refl (sym (ap (λ b. b || same_place (field_of i line) g) a) ∙ t.1);
    }
