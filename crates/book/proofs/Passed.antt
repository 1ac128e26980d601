-- What a line met to which no ground applies.
use Rattle.std.proofs.Common.{◌≡◌, ℕ, ◌/◌, ◌%◌, Bool, true, false, cond, eqb, List, ◌++◌, length, is_some, Some, None, Ok, Err, Option, Result, unwrap_or, option_map, refl, sym, ap, ◌∙◌}
use Rattle.std.specs.List.{slice_get}
use Rattle.std.proofs.lemmas.Bool.{and_parts, eqb-true, not-false}
use Rattle.octets.specs.Digits.{number_in}
use Rattle.octets.specs.Options.{and_then}
use Rattle.lots.specs.Limits.{quantity_fits, amount_fits}
use Rattle.lots.specs.Units.{per_cent, whole_cents}
use Rattle.lots.specs.declared.units.Cents.{Cents}
use Rattle.ledger.specs.declared.row.Entry.{Entry}
use Rattle.ledger.specs.declared.row.OrderNumber.{OrderNumber}
use Rattle.families.specs.Accounts.{holds, own_of, same_stem}
use Rattle.families.specs.Lines.{broker_of}
use Rattle.families.specs.Parts.{GroupParts, HeadingParts}
use Rattle.families.specs.declared.accounts.Investor.{Investor}
use Rattle.families.specs.declared.family.Rules.{Rules}
use Rattle.families.specs.declared.figures.Filed.{Filed}
use Rattle.forms.specs.Totals.{kind_in, group_in}
use Rattle.forms.specs.declared.contents.GroupName.{GroupName}
use Rattle.forms.specs.declared.totals.BadField.{BadField}
use Rattle.groups.specs.Groups.{number_of, place_of}
use Rattle.groups.specs.declared.kept.Group.{Group}
use Rattle.groups.specs.declared.kept.Place.{Place}
use Rattle.judge.specs.Grounds.{first_of}
use Rattle.judge.specs.Heading.{of_broker, of_date, sealed_account, place_named, heading_grounds, group_grounds}
use Rattle.judge.specs.Terms.{good_new, quantity_asked, amount_asked, terms_grounds}
use Rattle.judge.specs.declared.heading.Target.{Target}
use Rattle.judge.proofs.Firsts.{none_all, none-append}
use Rattle.lines.specs.Room.{order_grounds, room_grounds, used_order}
use Rattle.book.specs.Book.{Book}
use Rattle.book.specs.Lines.{target_in, name_grounds, filed_grounds, standing_of, wanted_by}

-- what was read
pub some_of : {A : Type 0} (o : Option A) → is_some o ≡ true → (x : A) × (o ≡ Some x)
some_of (Some x) h = (x, refl)
some_of None h = cc

-- and so what stands for it
pub read_back : {A : Type 0} (o : Option A) (d : A) → is_some o ≡ true → o ≡ Some (unwrap_or o d)
read_back (Some x) d h = refl
read_back None d h = cc

equal_read : (o : Option ℕ) (n : ℕ) → elim o [ Some x ↦ eqb x n | None ↦ false ] ≡ true → o ≡ Some n
equal_read (Some x) n h = ap Some (eqb-true x n h)
equal_read None n h = cc

order_found : (rows : List Entry) (o : Option OrderNumber) → used_order rows o ≡ false → is_some o ≡ true
order_found rows (Some x) h = refl
order_found rows None h = cc

investor_found : (foreign : Bool) (o : Option Investor) → holds foreign (option_map (λ (i : Investor). i.class) o) ≡ true → is_some o ≡ true
investor_found foreign (Some x) h = refl
investor_found foreign None h = cc

pub whole_cents_lem : (m : ℕ) (b : Bool) (c : Cents) → cond b (Some (let x : Cents = record { count = m / per_cent } in x)) None ≡ Some c → c.count ≡ m / per_cent
whole_cents_lem m true c h =
    let e : record { count = m / per_cent } ≡ c = cc in
    sym (ap (λ x. x.count) e)
whole_cents_lem m false c h = cc

-- what was read of a figure, and what is asked for by it
pub record Figure (A : Type 0) (o : Option ℕ) (asked : A) (of : ℕ → A → Type 0) : Type 0 where
  pub number : ℕ
  pub read : o ≡ Some number
  pub told : of number asked

quantity_read : (test : ℕ → Bool) (o : Option ℕ) → is_some (and_then o (λ q. cond (test q) (Some q) None)) ≡ true → Figure ℕ o (unwrap_or (and_then o (λ q. cond (test q) (Some q) None)) 0) (λ n q. q ≡ n)
quantity_read test None h = cc
quantity_read test (Some q) h = go (test q) h
  where
    go : (b : Bool) → is_some (cond b (Some q) None) ≡ true → Figure ℕ (Some q) (unwrap_or (cond b (Some q) None) 0) (λ n q. q ≡ n)
    go true h = record { number = q; read = refl; told = refl }
    go false h = cc

amount_read : (test : Cents → Bool) (o : Option ℕ) → is_some (and_then (and_then o whole_cents) (λ c. cond (test c) (Some c) None)) ≡ true
    → Figure Cents o (unwrap_or (and_then (and_then o whole_cents) (λ c. cond (test c) (Some c) None)) (record { count = 0 })) (λ n c. c.count ≡ n / per_cent)
amount_read test None h = cc
amount_read test (Some m) h = go (whole_cents m) refl h
  where
    go : (w : Option Cents) → whole_cents m ≡ w → is_some (and_then w (λ c. cond (test c) (Some c) None)) ≡ true → Figure Cents (Some m) (unwrap_or (and_then w (λ c. cond (test c) (Some c) None)) (record { count = 0 })) (λ n c. c.count ≡ n / per_cent)
    go None e h = cc
    go (Some c) e h = in_range (test c) h
      where
        in_range : (b : Bool) → is_some (cond b (Some c) None) ≡ true → Figure Cents (Some m) (unwrap_or (cond b (Some c) None) (record { count = 0 })) (λ n c. c.count ≡ n / per_cent)
        in_range true h = record { number = m; read = refl; told = whole_cents_lem m (eqb (m % per_cent) 0) c e }
        in_range false h = cc

-- a group that is named and has a place
pub record Named (r : Rules) (gs : List Group) (g : GroupParts) (p : Place) : Type 0 where
  pub name : GroupName
  pub read : group_in r g ≡ Ok name
  pub numbered : number_of name 0 gs ≡ Some p.number
  pub place : slice_get gs p.number ≡ Some p.group

placed_at : (gs : List Group) (n : ℕ) (p : Place) → option_map (λ g. let x : Place = record { number = n; group = g } in x) (slice_get gs n) ≡ Some p → (n ≡ p.number) × (slice_get gs n ≡ Some p.group)
placed_at gs n p h = go (slice_get gs n) refl h
  where
    go : (o : Option Group) → slice_get gs n ≡ o → option_map (λ g. let x : Place = record { number = n; group = g } in x) o ≡ Some p → (n ≡ p.number) × (slice_get gs n ≡ Some p.group)
    go None e k = cc
    go (Some g) e k =
        let q : record { number = n; group = g } ≡ p = cc in
        (ap (λ x. x.number) q, e ∙ ap (λ x. Some x.group) q)

named_for : (r : Rules) (gs : List Group) (g : GroupParts) (p : Place) (i : Result GroupName BadField) → group_in r g ≡ i → elim i [ Ok name ↦ place_of name gs | Err bad ↦ None ] ≡ Some p → Named r gs g p
named_for r gs g p (Err bad) e h = cc
named_for r gs g p (Ok name) e h = go (number_of name 0 gs) refl h
  where
    go : (o : Option ℕ) → number_of name 0 gs ≡ o → and_then o (λ n. option_map (λ g. let x : Place = record { number = n; group = g } in x) (slice_get gs n)) ≡ Some p → Named r gs g p
    go None f k = cc
    go (Some n) f k =
        let at = placed_at gs n p k in
        record { name = name; read = e; numbered = f ∙ ap Some at.0; place = sym (ap (slice_get gs) at.0) ∙ at.1 }

pub named : (r : Rules) (gs : List Group) (g : GroupParts) (p : Place) → place_named r gs g ≡ Some p → Named r gs g p
named r gs g p h = named_for r gs g p (group_in r g) refl h

-- what a filing or a deletion names
pub record Headed (b : Book) (h : HeadingParts) (t : Target) : Type 0 where
  pub target : target_in b h ≡ Some t
  pub broker_read : broker_of h.broker ≡ Some b.opened.broker
  pub date_read : number_in h.date ≡ Some b.opened.date
  pub kind_read : kind_in h.kind ≡ Some t.kind
  pub unsealed : sealed_account b.groups h.group.account ≡ false
  pub named : Named b.rules b.groups h.group t.place

pub headed : (b : Book) (h : HeadingParts) (clock : ℕ) → first_of (name_grounds b h clock) ≡ None → (t : Target) × Headed b h t
headed b h clock none =
    let parts = none-append (heading_grounds b.opened b.rules h clock) (group_grounds b.rules b.groups h.group) none in
    let t = none_all (heading_grounds b.opened b.rules h clock) parts.0 in
    let u = none_all (group_grounds b.rules b.groups h.group) parts.1 in
    let own = some_of (own_of b.rules h.group.account) (not-false (is_some (own_of b.rules h.group.account)) t.1.1.0) in
    let kind = some_of (kind_in h.kind) (not-false (is_some (kind_in h.kind)) t.1.1.1.1.1.0) in
    let place = some_of (place_named b.rules b.groups h.group) (not-false (is_some (place_named b.rules b.groups h.group)) u.1.0) in (
      record { stem = own.0.stem; place = place.0; kind = kind.0 },
      record {
        target = λ i. and_then (own.1 i) (λ o. and_then (place.1 i) (λ p. option_map (λ k. let x : Target = record { stem = o.stem; place = p; kind = k } in x) (kind.1 i)));
        broker_read = equal_read (broker_of h.broker) b.opened.broker (not-false (of_broker b.opened h.broker) t.1.0);
        date_read = equal_read (number_in h.date) b.opened.date (not-false (of_date b.opened h.date) t.1.1.1.1.1.1.0);
        kind_read = kind.1;
        unsealed = u.0;
        named = named b.rules b.groups h.group place.0 place.1;
      },
    )

-- a filing that was accepted
pub record Accepted (b : Book) (t : Target) (f : Filed) (space : ℕ) : Type 0 where
  pub order : is_some f.common.order ≡ true
  pub investor : is_some f.common.investor ≡ true
  pub new_broker : is_some f.new_broker ≡ true
  pub order_type : is_some f.order_type ≡ true
  pub quantity : Figure ℕ f.common.quantity (wanted_by b t f).quantity (λ n q. q ≡ n)
  pub amount : Figure Cents f.common.amount (wanted_by b t f).amount (λ n c. c.count ≡ n / per_cent)
  pub terms : first_of (terms_grounds b.rules t f) ≡ None
  pub room : first_of (room_grounds (length b.rows) b.capacity (standing_of b t) (wanted_by b t f) b.next space b.records.reply_length) ≡ None

pub accepted : (b : Book) (t : Target) (f : Filed) (space : ℕ) → first_of (filed_grounds b f space t) ≡ None → Accepted b t f space
accepted b t f space h =
    let on_terms = terms_grounds b.rules t f in
    let on_room = room_grounds (length b.rows) b.capacity (standing_of b t) (wanted_by b t f) b.next space b.records.reply_length in
    let h1 = none-append (order_grounds b.rows f.common.order) (on_terms ++ on_room) h in
    let h2 = none-append on_terms on_room h1.1 in
    let o = none_all (order_grounds b.rows f.common.order) h1.0 in
    let u = none_all (terms_grounds b.rules t f) h2.0 in
    let new = and_parts _ _ (not-false (good_new b.rules t f) u.0) in
    record {
      order = order_found b.rows f.common.order o.0;
      investor = investor_found (same_stem t.stem b.rules.foreign) f.common.investor new.0;
      new_broker = new.1;
      order_type = not-false (is_some f.order_type) u.1.0;
      quantity = quantity_read (λ q. quantity_fits t.kind t.place.group.size b.rules.most_units.count q) f.common.quantity (not-false (is_some (quantity_asked b.rules t f)) u.1.1.0);
      amount = amount_read (λ c. amount_fits t.kind t.place.group.size c.count) f.common.amount (not-false (is_some (amount_asked t f)) u.1.1.1.0);
      terms = h2.0;
      room = h2.1;
    }
