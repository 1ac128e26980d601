-- A row agrees with the reply to its piece.
use Rattle.std.proofs.Common.{◌≡◌, ◌≢◌, ⊎_elim, ℕ, ◌+◌, ◌-◌, Bool, true, false, List, [], ◌++◌, length, take, drop, replicate, Some, None, Ok, refl, ap, ap₂, ◌∙◌, sym, arith, append-nil}
use Rattle.std.proofs.lemmas.Bool.{true≢false, cases_Bool}
use Rattle.std.proofs.lemmas.List.{take_all}
use Rattle.ledger.specs.declared.row.Entry.{Entry}
use Rattle.octets.specs.Splice.{blank}
use Rattle.octets.specs.Digits.{digits, number_in}
use Rattle.octets.specs.Texts.{unpacked}
use Rattle.lots.specs.Units.{kind_number}
use Rattle.lots.specs.declared.units.Kind.{Kind}
use Rattle.layout.specs.Values.{Content, text, bytes_in, fitted}
use Rattle.layout.specs.Layouts.{part_of, field_of, told, record_of}
use Rattle.layout.specs.declared.field.Field.{Field}
use Rattle.layout.specs.declared.field.Item.{Item}
use Rattle.layout.specs.declared.field.Item.TheVariants.{Broker, Account, Security, Side, Kind as KindItem, Date, Order, NewBroker, NewAccount, Quantity, Amount, OrderType, Code, TradeNumber, Price, RunningQuantity, RunningAmount, TypeQuantity, TypeAmount, ErrorCode, Message, Filler}
use Rattle.families.specs.Lines.{order_of, broker_of, type_of, new_broker_in, order_type_in}
use Rattle.families.specs.Accounts.{account_of}
use Rattle.families.specs.Parts.{group_told}
use Rattle.families.specs.Families.{tiled, answered, consistent}
use Rattle.families.specs.declared.family.Form.{Form}
use Rattle.families.specs.declared.family.Form.TheVariants.{Line, Reply, Row}
use Rattle.families.specs.declared.family.Rules.{Rules}
use Rattle.forms.specs.Agreement.{Agree}
use Rattle.forms.specs.Replies.{order_text, piece_says, row_says}
use Rattle.forms.specs.Said.{heading_in, filing_in}
use Rattle.forms.specs.Totals.{kind_in, group_in}
use Rattle.forms.specs.declared.contents.GroupName.{GroupName}
use Rattle.forms.specs.declared.contents.Row.{Row as RowContents}
use Rattle.forms.proofs.Again.{digits-number, unpacked-wide, digits-wide}
use Rattle.forms.proofs.Consistent.{Consistent, consistent_parts, not_told, only_where, Shown, shown_parts}
use Rattle.forms.proofs.Filings.{GroupRead, group_read}
use Rattle.forms.proofs.Fits.{fit_at, back_at}
use Rattle.forms.proofs.Lines.{broker-again, security-again, order-again, side-again, kind-again, account-again, type-again}
use Rattle.forms.proofs.Places.{item_of, within, length-part}

-- An entry says what a line files.
pub record Written (r : Rules) (layout : Form → List Field) (extent : Form → ℕ) (l : List ℕ) (broker date : ℕ) (name : GroupName) (kind : Kind) (e : Entry) : Type 0 where
  pub fit : tiled layout extent ≡ true
  pub alike : consistent r layout ≡ true
  pub whole : length l ≡ extent Line
  pub broker_read : broker_of (heading_in (layout Line) l).broker ≡ Some broker
  pub date_read : number_in (heading_in (layout Line) l).date ≡ Some date
  pub named : group_in r (heading_in (layout Line) l).group ≡ Ok name
  pub kind_read : kind_in (heading_in (layout Line) l).kind ≡ Some kind
  pub same_kind : e.kind ≡ kind_number kind
  pub order_read : order_of (filing_in (layout Line) l).order ≡ Some e.order
  pub new_broker_read : new_broker_in r.new_broker (filing_in (layout Line) l).new_broker ≡ Some e.new_broker
  pub new_account_read : account_of (filing_in (layout Line) l).new_account ≡ Some e.new_account
  pub order_type_read : order_type_in r.order_type (filing_in (layout Line) l).order_type ≡ Some e.order_type

-- a text as wide as its field
fitted_whole : (w : ℕ) (bs : List ℕ) → length bs ≡ w → fitted w bs ≡ bs
fitted_whole w bs h =
    let z : w - length bs ≡ 0 = omega arith in
    ap₂ (λ xs n. xs ++ replicate n blank) (take_all w bs (omega arith)) z ∙ append-nil bs

broker_where : (has : Bool) (bs : List ℕ) (b : ℕ) → has ≡ true → new_broker_in has bs ≡ Some b → broker_of bs ≡ Some b
broker_where true bs b t h = h
broker_where false bs b t h = absurd (true≢false (sym t))

type_where : (has : Bool) (bs : List ℕ) (t : ℕ) → has ≡ true → order_type_in has bs ≡ Some t → type_of bs ≡ Some t
type_where true bs t s h = h
type_where false bs t s h = absurd (true≢false (sym s))

module _ (r : Rules) (layout : Form → List Field) (extent : Form → ℕ) (l : List ℕ) (broker date : ℕ) (name : GroupName) (kind : Kind) (e : Entry) (w : Written r layout extent l broker date name kind e) (amount code : ℕ) (g : Field) where
  abbrev row : RowContents
  row = record { heading = record { broker = broker; date = date; group = name }; entry = e }

  -- the line's bytes for an item, and what the reply's field g says of it
  abbrev bytes : Item → List ℕ
  bytes i = told (layout Line) i l

  abbrev reply : Item → Content
  reply i = piece_says l e amount code (record { item = i; first = g.first; width = g.width })

  group : GroupRead r (group_told (layout Line) l) name
  group = group_read r (group_told (layout Line) l) name w.named

  family : Consistent r layout
  family = consistent_parts r layout w.alike

  -- An answered item: row and reply say one number.
  answers : (i : Item) → answered i ≡ true → (n : ℕ) → bytes_in n (row_says row i) ≡ bytes_in n (reply i)
  answers Quantity a n = refl
  answers TradeNumber a n = refl
  answers Price a n = refl
  answers RunningQuantity a n = refl
  answers RunningAmount a n = refl
  answers TypeQuantity a n = refl
  answers TypeAmount a n = refl
  answers _ a n = absurd (true≢false (sym a))

  -- Another item: the row writes the line's bytes again, and the reply repeats them.
  abbrev IsAgain : Item → Type 0
  IsAgain i = (bytes_in (length (bytes i)) (row_says row i) ≡ bytes i) × (reply i ≡ text (part_of g l))

  again : (i : Item) (f : Field) → field_of i (layout Row) ≡ Some f → answered i ≡ false → (i ≢ Filler) → IsAgain i
  again Broker f h a nf = (unpacked-wide 4 broker (bytes Broker) (broker-again (bytes Broker) broker w.broker_read), refl)
  again Account f h a nf = (digits-wide 7 name.account (bytes Account) (account-again (bytes Account) name.account group.account_read), refl)
  again Security f h a nf = (unpacked-wide 6 name.security (bytes Security) (security-again (bytes Security) name.security group.security_read), refl)
  again Side f h a nf = (unpacked-wide 1 name.side (bytes Side) (side-again r (bytes Side) name.side group.side_read), refl)
  again KindItem f h a nf =
      let k : digits 1 e.kind ≡ bytes KindItem = ap (digits 1) w.same_kind ∙ kind-again (bytes KindItem) kind w.kind_read in
      (digits-wide 1 e.kind (bytes KindItem) k, refl)
  again Date f h a nf = (digits-number (bytes Date) date w.date_read, refl)
  again Order f h a nf =
      let k : unpacked 5 (order_text e.order) ≡ bytes Order = order-again (bytes Order) e.order w.order_read in
      (unpacked-wide 5 (order_text e.order) (bytes Order) k, refl)
  again NewBroker f h a nf =
      let s = broker_where r.new_broker (bytes NewBroker) e.new_broker (only_where NewBroker (layout Row) f r.new_broker family.new_broker h) w.new_broker_read in
      let k : unpacked 4 e.new_broker ≡ bytes NewBroker = broker-again (bytes NewBroker) e.new_broker s in
      (unpacked-wide 4 e.new_broker (bytes NewBroker) k, refl)
  again NewAccount f h a nf =
      let k : digits 7 e.new_account ≡ bytes NewAccount = account-again (bytes NewAccount) e.new_account w.new_account_read in
      (digits-wide 7 e.new_account (bytes NewAccount) k, refl)
  again OrderType f h a nf =
      let s = type_where r.order_type (bytes OrderType) e.order_type (only_where OrderType (layout Row) f r.order_type family.order_type h) w.order_type_read in
      let k : digits 1 e.order_type ≡ bytes OrderType = type-again (bytes OrderType) e.order_type s in
      (digits-wide 1 e.order_type (bytes OrderType) k, refl)
  again Amount f h a nf = absurd (not_told Amount (layout Row) f family.no_amount h)
  again Code f h a nf = absurd (not_told Code (layout Row) f family.no_code h)
  again ErrorCode f h a nf = absurd (not_told ErrorCode (layout Row) f family.no_error h)
  again Message f h a nf = absurd (not_told Message (layout Row) f family.no_message h)
  again Filler f h a nf = absurd (nf refl)
  again _ f h a nf = absurd (true≢false a)

  -- the line's own field is where the reply repeats it, and within the line
  repeats : (i : Item) (h : Field) → field_of i (layout Line) ≡ Some h → h.first ≡ g.first → h.width ≡ g.width → (bytes i ≡ part_of g l) × (length (bytes i) ≡ g.width)
  repeats i h eh ef ew =
      let p = ap (λ o. elim o [ Some x ↦ part_of x l | None ↦ [] ]) eh in
      let q : part_of h l ≡ part_of g l = ap₂ (λ n k. take n (drop (k - 1) l)) ew ef in
      let b = within i (layout Line) h 1 (extent Line + 1) (fit_at layout extent w.fit Line) eh in
      (p ∙ q, ap length p ∙ length-part h (extent Line) l b.0 b.1 w.whole ∙ ew)

  alike_at : (i : Item) (f : Field) → (i ≢ Filler) → field_of i (layout Row) ≡ Some f → field_of i (layout Reply) ≡ Some g → bytes_in f.width (row_says row f.item) ≡ bytes_in g.width (piece_says l e amount code g)
  alike_at i f nf ef eg =
      ap₂ (λ n j. bytes_in n (row_says row j)) shown.width (item_of i (layout Row) f ef)
      ∙ ⊎_elim (λ a. answers i a g.width) repeated (cases_Bool (answered i))
      ∙ ap (λ j. bytes_in g.width (reply j)) (sym (item_of i (layout Reply) g eg))
    where
      shown : Shown i (layout Line) f g
      shown = shown_parts i (layout Line) (layout Reply) (layout Row) f g family.alike nf ef eg

      repeated : answered i ≡ false → bytes_in g.width (row_says row i) ≡ bytes_in g.width (reply i)
      repeated a =
          let h = shown.repeated a in
          let p = repeats i h.0 h.1 h.2 h.3 in
          let q = again i f ef a nf in
          let whole : fitted g.width (part_of g l) ≡ bytes i = ap (fitted g.width) (sym p.0) ∙ fitted_whole g.width (bytes i) p.1 in
          ap (λ n. bytes_in n (row_says row i)) (sym p.1) ∙ q.0 ∙ sym whole ∙ sym (ap (bytes_in g.width) q.1)

-- In every item that both tell, the row of an entry says what the reply to its piece says.
pub agreement : {r : Rules} {layout : Form → List Field} {extent : Form → ℕ} {l : List ℕ} {broker date : ℕ} {name : GroupName} {kind : Kind} {e : Entry} →
    Written r layout extent l broker date name kind e → (amount code : ℕ) →
    Agree (layout Row) (record_of (λ f. row_says (record { heading = record { broker = broker; date = date; group = name }; entry = e }) f.item) (layout Row))
    (layout Reply) (record_of (piece_says l e amount code) (layout Reply))
agreement {r} {layout} {extent} {l} {broker} {date} {name} {kind} {e} w amount code i f g nf ef eg =
    back_at layout extent w.fit Row (λ x. row_says (record { heading = record { broker = broker; date = date; group = name }; entry = e }) x.item) i f ef
    ∙ alike_at r layout extent l broker date name kind e w amount code g i f nf ef eg
    ∙ sym (back_at layout extent w.fit Reply (piece_says l e amount code) i g eg)
