-- The records of a family: how long they are, and a piece's number in the reply to it.
use Rattle.std.proofs.Common.{◌≡◌, ℕ, ◌^◌, ◌<◌, ◌≤◌, true, leb, List, length, Some, None, Option, refl, ap, ◌∙◌, arith}
use Rattle.std.proofs.lemmas.Bool.{and_parts, leb-true}
use Rattle.ledger.specs.declared.row.Entry.{Entry}
use Rattle.octets.specs.Digits.{number_in}
use Rattle.octets.proofs.Numbers.{pow_room}
use Rattle.layout.specs.Values.{Content, number}
use Rattle.layout.specs.Layouts.{field_of, told, record_of}
use Rattle.layout.specs.declared.field.Field.{Field}
use Rattle.layout.specs.declared.field.Item.{Item}
use Rattle.layout.specs.declared.field.Item.TheVariants.{TradeNumber}
use Rattle.layout.proofs.Widths.{length-record}
use Rattle.families.specs.Families.{tiled, numbers_fit, consistent}
use Rattle.families.specs.declared.family.Form.{Form}
use Rattle.families.specs.declared.family.Form.TheVariants.{Reply}
use Rattle.families.specs.declared.family.Rules.{Rules}
use Rattle.forms.specs.Replies.{piece_says}
use Rattle.forms.proofs.Consistent.{consistent_parts}
use Rattle.forms.proofs.Fits.{width-at, back_at, numbers-back}
use Rattle.forms.proofs.Places.{item_of}

pub record_length : (layout : Form → List Field) (extent : Form → ℕ) → tiled layout extent ≡ true → (form : Form) (says : Field → Content) → length (record_of says (layout form)) ≡ extent form
record_length layout extent h form says = length-record says (layout form) ∙ width-at layout extent h form

-- the field of trade numbers, which has 8 to 19 digits
number_field : (fs : List Field) → numbers_fit fs ≡ true → (f : Field) × (field_of TradeNumber fs ≡ Some f) × (8 ≤ f.width) × (f.width ≤ 19)
number_field fs h = go (field_of TradeNumber fs) refl
  where
    go : (o : Option Field) → field_of TradeNumber fs ≡ o → (f : Field) × (field_of TradeNumber fs ≡ Some f) × (8 ≤ f.width) × (f.width ≤ 19)
    go (Some f) e =
        let t = and_parts (leb 8 f.width) (leb f.width 19) (rw (e, numbers_fit) at h) in
        (f, e, leb-true 8 f.width t.0, leb-true f.width 19 t.1)
    go None e = let n = rw (e, numbers_fit) at h in grind arith

-- a trade number of eight digits is read from the reply to its piece
pub numbered_piece : (r : Rules) (layout : Form → List Field) (extent : Form → ℕ) → tiled layout extent ≡ true → consistent r layout ≡ true → (l : List ℕ) (e : Entry) (amount code : ℕ) → e.trade_number < 10 ^ 8 → number_in (told (layout Reply) TradeNumber (record_of (piece_says l e amount code) (layout Reply))) ≡ Some e.trade_number
numbered_piece r layout extent fit alike l e amount code below =
    let n = number_field (layout Reply) (consistent_parts r layout alike).numbers in
    let f = n.0 in
    let i : f.item ≡ TradeNumber = item_of TradeNumber (layout Reply) f n.1 in
    let with_item : Item → Field = λ j. record { item = j; first = f.first; width = f.width } in
    let s : piece_says l e amount code f ≡ number e.trade_number = ap (λ j. piece_says l e amount code (with_item j)) i in
    numbers-back (layout Reply) (back_at layout extent fit Reply) (piece_says l e amount code) TradeNumber f e.trade_number n.1 s n.3 (pow_room 10 e.trade_number 8 f.width (omega arith) below n.2)
