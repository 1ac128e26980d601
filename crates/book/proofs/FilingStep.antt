-- A filing to which no ground applies keeps what every run keeps.
use Rattle.std.proofs.Common.{◌≡◌, ℕ, suc, ◌+◌, ◌*◌, ◌/◌, ◌<◌, ◌≤◌, Bool, true, false, cond, ◌&&◌, eqb, List, [], ◌∷◌, ◌++◌, map, length, is_some, Some, None, Ok, Err, Option, unwrap_or, option_map, inl, inr, refl, sym, ap, subst, ◌∙◌, arith, append_assoc}
use Rattle.std.specs.List.{AllByRecursion, Contains, slice_get}
use Rattle.std.proofs.lemmas.List.{map-append, length-map}
use Rattle.std.proofs.lemmas.List.Elements.{Contains-append_right}
use Rattle.std.proofs.lemmas.Bool.{ltb-false, eq-eqb}
use Rattle.std.proofs.Math.Nat.{le-mul_of_pos_right}
use Rattle.octets.specs.Digits.{number_in}
use Rattle.octets.specs.Options.{and_then}
use Rattle.octets.specs.Splice.{spliced}
use Rattle.lots.specs.Split.{Exact}
use Rattle.lots.specs.Units.{kind_number, per_cent, shares_in, shares_to_unit}
use Rattle.lots.specs.declared.units.Kind.{Kind}
use Rattle.lots.specs.declared.units.Kind.TheVariants.{BoardLot, OddLot}
use Rattle.lots.proofs.Figures.{unit_range, quantity_range, amount_range, exact_runs, pieces-quantity, pieces-worth}
use Rattle.layout.specs.Layouts.{record_of}
use Rattle.layout.specs.declared.field.Field.{Field}
use Rattle.ledger.specs.declared.row.Entry.{Entry}
use Rattle.families.specs.Accounts.{account_of, investor_of, class_in}
use Rattle.families.specs.Families.{tiled, consistent}
use Rattle.families.specs.Parts.{FilingParts}
use Rattle.families.specs.declared.accounts.Investor.{Investor}
use Rattle.families.specs.declared.family.Form.{Form}
use Rattle.families.specs.declared.family.Form.TheVariants.{Line, Reply, Row}
use Rattle.families.specs.declared.family.Rules.{Rules}
use Rattle.families.specs.declared.figures.Filed.{Filed as FiledFigures}
use Rattle.forms.specs.Agreement.{Agree}
use Rattle.forms.specs.Replies.{row_says, piece_says}
use Rattle.forms.specs.Said.{filing_in}
use Rattle.forms.specs.Totals.{kind_in, group_in}
use Rattle.forms.specs.declared.contents.GroupName.{GroupName}
use Rattle.forms.proofs.Agreement.{Written, agreement}
use Rattle.forms.proofs.Filings.{group_read}
use Rattle.forms.proofs.Pieces.{numbered_piece, record_length}
use Rattle.groups.specs.Groups.{name_at, sealed_by, retained_of}
use Rattle.groups.specs.declared.kept.Group.{Group}
use Rattle.judge.specs.Grounds.{first_of}
use Rattle.judge.specs.Wanted.{pieces_wanted, count_of}
use Rattle.judge.specs.declared.heading.Target.{Target}
use Rattle.judge.specs.declared.terms.Wanted.{Wanted}
use Rattle.judge.proofs.Firsts.{none_all}
use Rattle.lines.specs.Enter.{before_in}
use Rattle.lines.specs.Entries.{row_worth, Says}
use Rattle.lines.specs.PieceReplies.{code_before, piece_replies}
use Rattle.lines.specs.Room.{room_grounds}
use Rattle.lines.specs.declared.entries.Entering.{Entering}
use Rattle.lines.specs.declared.open.Standing.{Standing}
use Rattle.lines.proofs.EntriesLaw.{length-entries}
use Rattle.lines.proofs.Fitting.{Terms, terms}
use Rattle.book.specs.Answered.{trade_number}
use Rattle.book.specs.Book.{Book, records_by}
use Rattle.book.specs.Heard.{records_in}
use Rattle.book.specs.Lines.{filed_by, filed_grounds, standing_of, wanted_by, entering_by, completes, rows_filed, entered}
use Rattle.book.specs.Tally.{Tally, Filed, shares_each, unit_of, traded_shares, traded_amount, filing_heard, filed_as, with_filed}
use Rattle.book.proofs.Both.{held-both, worth-both}
use Rattle.book.proofs.Entries.{says_each, alike_each, shares_each_come, worths_each_come, entries_run, numbers_follow, below_end}
use Rattle.book.proofs.Filing.{Comes, filing_sound}
use Rattle.book.proofs.Names.{At, at_place}
use Rattle.book.proofs.Numbers.{joined, records-spliced, Successive, rising-append, rising-successive}
use Rattle.book.proofs.Passed.{Accepted, Headed, accepted, read_back}
use Rattle.book.proofs.RetentionStep.{none_at}
use Rattle.book.proofs.Rows.{OfKinds}
use Rattle.book.proofs.Sound.{Placed, Issued, Sound, unit_in, shares_both, worth_both}
use Rattle.book.proofs.TotalStep.{same_each}

-- The replies to entries, one by one.
abbrev pub reply_to : List Field → List ℕ → ℕ → Bool → Entry → ℕ → List ℕ
reply_to fs line s completes x left = record_of (piece_says line x (row_worth s x) (code_before completes left)) fs

abbrev pub replies_to : List Field → List ℕ → ℕ → Bool → List Entry → List (List ℕ)
replies_to fs line s completes [] = []
replies_to fs line s completes (x ∷ xs) = reply_to fs line s completes x (length xs) ∷ replies_to fs line s completes xs

replies-joined : (fs : List Field) (line : List ℕ) (s : ℕ) (completes : Bool) (xs : List Entry) → piece_replies fs line s completes xs ≡ joined (replies_to fs line s completes xs)
replies-joined fs line s completes [] = refl
replies-joined fs line s completes (x ∷ xs) = ap (λ l. reply_to fs line s completes x (length xs) ++ l) (replies-joined fs line s completes xs)

length-replies_to : (fs : List Field) (line : List ℕ) (s : ℕ) (completes : Bool) (xs : List Entry) → length (replies_to fs line s completes xs) ≡ length xs
length-replies_to fs line s completes [] = refl
length-replies_to fs line s completes (x ∷ xs) = ap suc (length-replies_to fs line s completes xs)

of_length : (fs : List Field) (line : List ℕ) (s w : ℕ) (completes : Bool) (wide : (says : Field → _) → length (record_of says fs) ≡ w) (xs : List Entry) → AllByRecursion (λ r. length r ≡ w) (replies_to fs line s completes xs)
of_length fs line s w completes wide [] = tt
of_length fs line s w completes wide (x ∷ xs) = (wide (piece_says line x (row_worth s x) (code_before completes (length xs))), of_length fs line s w completes wide xs)

lot_kind : (k : Kind) (e : Entry) → e.kind ≡ kind_number k → OfKinds e
lot_kind BoardLot e h = inl h
lot_kind OddLot e h = inr h

unit_kind : (k : Kind) (g : Group) → shares_to_unit k g.size ≡ cond (eqb (kind_number k) 0) (shares_in g.size) 1
unit_kind BoardLot g = refl
unit_kind OddLot g = refl

heard_filing : (r : Rules) (p : FilingParts) (t : Tally) (name : GroupName) (kind : Kind) (q m : ℕ) → group_in r p.heading.group ≡ Ok name → kind_in p.heading.kind ≡ Some kind → number_in p.quantity ≡ Some q → number_in p.amount ≡ Some m → filing_heard r p t ≡ with_filed name kind q m t
heard_filing r p t name kind q m e k n a =
    ap (λ x. elim x [ Ok n ↦ filed_as n (kind_in p.heading.kind) (number_in p.quantity) (number_in p.amount) t | Err bad ↦ t ]) e
    ∙ ap (λ x. filed_as name x (number_in p.quantity) (number_in p.amount) t) k
    ∙ ap (λ x. filed_as name (Some kind) x (number_in p.amount) t) n
    ∙ ap (λ x. filed_as name (Some kind) (Some q) x t) a

-- the account of an investor
number_read : (a : List ℕ) → is_some (investor_of a) ≡ true → account_of a ≡ Some (unwrap_or (option_map (λ (i : Investor). i.number) (investor_of a)) 0)
number_read a h = go (account_of a) h
  where
    go : (o : Option ℕ) → is_some (and_then o (λ n. Some (let x : Investor = record { number = n; class = class_in a } in x))) ≡ true → o ≡ Some (unwrap_or (option_map (λ (i : Investor). i.number) (and_then o (λ n. Some (let x : Investor = record { number = n; class = class_in a } in x)))) 0)
    go (Some n) h = refl
    go None h = cc

module _ (layout : Form → List Field) (extent : Form → ℕ) (b : Book) (t : Tally) (pieces : List (List ℕ)) (S : Sound b t pieces)
    (fit : tiled layout extent ≡ true) (alike : consistent b.rules layout ≡ true) (records : b.records ≡ records_by layout extent) (line : List ℕ) (whole : length line ≡ extent Line) where
  abbrev p : FilingParts
  p = filing_in (layout Line) line

  abbrev says : FiledFigures
  says = filed_by b p

  module _ (at : Target) (H : Headed b p.heading at) (space : ℕ) (none : first_of (filed_grounds b says space at) ≡ None) where
    A : Accepted b at says space
    A = accepted b at says space none

    abbrev name : GroupName
    name = H.named.name

    abbrev n : ℕ
    n = at.place.number

    abbrev g : Group
    g = at.place.group

    abbrev lot : Kind
    lot = at.kind

    stood_at : At b.groups name n
    stood_at = at_place name b.groups n H.named.numbered

    -- the group that stands there is the target's
    named_so : g.name ≡ name
    named_so =
        let q : Some stood_at.group ≡ Some g = sym stood_at.place ∙ H.named.place in
        let e : stood_at.group ≡ g = cc in
        ap (λ x. x.name) (sym e) ∙ stood_at.named

    abbrev each : ℕ
    each = shares_to_unit lot g.size

    -- what it asks for, and what its entries have in common
    abbrev w : Wanted
    w = wanted_by b at says

    abbrev e : Entering
    e = entering_by b at says

    good : Terms b.rules at w
    good = terms b.rules at says A.terms

    positive : 0 < w.quantity
    positive = (quantity_range lot g.size b.rules.most_units.count w.quantity good.quantity).0

    paid : 0 < w.amount.count
    paid = (amount_range lot g.size w.amount.count good.amount).0

    exact : Exact w.quantity each w.amount.count w.runs
    exact = exact_runs lot g.size b.rules.most_units.count w.quantity w.amount.count good.quantity good.amount

    -- its entries
    abbrev xs : List Entry
    xs = rows_filed b at says

    long : length xs ≡ count_of w
    long = length-entries e (before_in b.rows e b.next) (pieces_wanted w)

    -- what the tally has of it
    abbrev f : Filed
    f = record { group = name; kind = lot; shares = A.quantity.number * shares_each lot (unit_of name t.totals); amount = A.amount.number / per_cent }

    unit_told : unit_of name t.totals ≡ shares_in g.size
    unit_told = ap (λ m. unit_of m t.totals) (sym named_so) ∙ (S.known n g H.named.place).unit

    each_told : each ≡ shares_each lot (unit_of name t.totals)
    each_told = same_each lot g.size (unit_of name t.totals) (sym unit_told)

    shares_filed : w.quantity * each ≡ f.shares
    shares_filed = λ i. A.quantity.told i * each_told i

    comes : Comes n lot g xs f
    comes = record {
      alike = alike_each e b.rows b.next (pieces_wanted w) (shares_in g.size) (unit_kind lot g);
      same_kind = refl;
      shares = shares_each_come e b.rows b.next (pieces_wanted w) (shares_in g.size) (unit_kind lot g) ∙ ap (λ m. m * each) (pieces-quantity w.cut exact) ∙ shares_filed;
      amount = worths_each_come e b.rows b.next (pieces_wanted w) (shares_in g.size) (unit_kind lot g) ∙ pieces-worth w.cut exact ∙ A.amount.told;
    }

    -- what is open
    abbrev stood : Standing
    stood = standing_of b at

    tests : AllByRecursion (λ x. x.1 ≡ false) (room_grounds (length b.rows) b.capacity stood w b.next space b.records.reply_length)
    tests = none_all (room_grounds (length b.rows) b.capacity stood w b.next space b.records.reply_length) A.room

    open_shares : shares_both n g.size b.rows + f.shares ≤ traded_shares g.name t.totals
    open_shares =
        let k = S.known n g H.named.place in
        let a = ltb-false stood.open_shares.count (w.quantity * each) tests.0 in
        let c : w.quantity ≤ w.quantity * each = le-mul_of_pos_right w.quantity (unit_range lot g.size).0 in
        let d = held-both n g.size b.rows in
        omega (arith, k.shares, positive, shares_filed)

    open_amount : worth_both n g.size b.rows + f.amount ≤ traded_amount g.name t.totals
    open_amount =
        let k = S.known n g H.named.place in
        let a = ltb-false stood.open_amount.count w.amount.count tests.1.0 in
        let d = worth-both n g.size b.rows in
        omega (arith, k.amount, paid, A.amount.told)

    ends : b.next + count_of w ≤ 100000000
    ends = ltb-false 100000000 (b.next + count_of w) tests.1.1.0

    not_retained : g.retained ≡ true → ⊥
    not_retained h =
        let q = (group_read b.rules p.heading.group name H.named.read).account_read in
        let s : sealed_by name.account b.groups ≡ false = sym (ap (λ o. elim o [ Some a ↦ sealed_by a b.groups | None ↦ false ]) q) ∙ H.unsealed in
        let r = none_at (retained_of name.account) b.groups n g s H.named.place in
        let u : eqb g.name.account name.account ≡ true = eq-eqb g.name.account name.account (ap (λ m. m.account) named_so) in
        let v : (true && true) ≡ false = ap (λ c. c && true) (sym h) ∙ ap (λ c. g.retained && c) (sym u) ∙ r in
        cc

    -- the replies that it gives
    abbrev done : Bool
    done = completes (standing_of b at) w

    abbrev recs : List (List ℕ)
    recs = replies_to (layout Reply) line each done xs

    written : (x : Entry) → Says e x → Written b.rules layout extent line b.opened.broker b.opened.date name lot x
    written x s = record {
      fit = fit;
      alike = alike;
      whole = whole;
      broker_read = H.broker_read;
      date_read = H.date_read;
      named = H.named.read;
      kind_read = H.kind_read;
      same_kind = s.kind;
      order_read = read_back says.common.order _ A.order ∙ ap Some (sym s.order);
      new_broker_read = read_back says.new_broker 0 A.new_broker ∙ ap Some (sym s.new_broker);
      new_account_read = number_read p.new_account A.investor ∙ ap Some (sym s.new_account);
      order_type_read = read_back says.order_type 0 A.order_type ∙ ap Some (sym s.order_type);
    }

    name_is : (x : Entry) → x.group ≡ n → name_at b.groups x.group ≡ name
    name_is x h = ap (name_at b.groups) h ∙ ap (λ o. elim o [ Some y ↦ y.name | None ↦ record { account = 0; security = 0; side = 0 } ]) H.named.place ∙ named_so

    abbrev row_with : Entry → GroupName → List ℕ
    row_with x m = record_of (λ y. row_says (record { heading = record { broker = b.opened.broker; date = b.opened.date; group = m }; entry = x }) y.item) (layout Row)

    agrees : (x : Entry) → Says e x → (amount code : ℕ) → Agree (layout Row) (row_with x (name_at b.groups x.group)) (layout Reply) (record_of (piece_says line x amount code) (layout Reply))
    agrees x s amount code = subst (λ m. Agree (layout Row) (row_with x m) (layout Reply) (record_of (piece_says line x amount code) (layout Reply))) (sym (name_is x s.group)) (agreement (written x s) amount code)

    answered_each : (front : List (List ℕ)) (ys : List Entry) → AllByRecursion (Says e) ys → AllByRecursion (Placed (records_by layout extent) b.opened b.groups (front ++ replies_to (layout Reply) line each done ys)) ys
    answered_each front [] h = tt
    answered_each front (y ∷ ys) h =
        let r = reply_to (layout Reply) line each done y (length ys) in
        let rest = replies_to (layout Reply) line each done ys in
        let first : Contains (r ∷ rest) r = (0, omega arith, refl) in (
          record {
            kinds = lot_kind lot y h.0.kind;
            group = g;
            place = ap (slice_get b.groups) h.0.group ∙ H.named.place;
            answered = (r, Contains-append_right front (r ∷ rest) r first, agrees y h.0 (row_worth each y) (code_before done (length ys)));
          },
          subst (λ l. AllByRecursion (Placed (records_by layout extent) b.opened b.groups l) ys) (append_assoc front (r ∷ []) rest) (answered_each (front ++ r ∷ []) ys h.1),
        )

    placed : AllByRecursion (Placed b.records b.opened b.groups (pieces ++ recs)) xs
    placed = subst (λ s. AllByRecursion (Placed s b.opened b.groups (pieces ++ recs)) xs) (sym records) (answered_each pieces xs (says_each e b.rows b.next (pieces_wanted w) (shares_in g.size) (unit_kind lot g)))

    -- their numbers
    numbers_told : (ys : List Entry) → AllByRecursion (λ y. y.trade_number < 100000000) ys → map (trade_number (records_by layout extent)) (replies_to (layout Reply) line each done ys) ≡ map Some (map (λ y. y.trade_number) ys)
    numbers_told [] h = refl
    numbers_told (y ∷ ys) h =
        ap (λ o. o ∷ map (trade_number (records_by layout extent)) (replies_to (layout Reply) line each done ys)) (numbered_piece b.rules layout extent fit alike line y (row_worth each y) (code_before done (length ys)) h.0)
        ∙ ap (λ l. Some y.trade_number ∷ l) (numbers_told ys h.1)

    follow : Successive b.next (map (λ y. y.trade_number) xs)
    follow = numbers_follow e (before_in b.rows e b.next) (pieces_wanted w)

    issued : Issued b.records (b.next + count_of w) (pieces ++ recs)
    issued =
        let below = below_end b.next 100000000 xs (omega (arith, ends, long)) follow in
        let told : map (trade_number b.records) recs ≡ map Some (map (λ y. y.trade_number) xs) = ap (λ s. map (trade_number s) recs) records ∙ numbers_told xs below in
        record {
          numbers = S.issued.numbers ++ map (λ y. y.trade_number) xs;
          told = map-append (trade_number b.records) pieces recs ∙ ap (λ l. l ++ map (trade_number b.records) recs) S.issued.told ∙ ap (λ l. map Some S.issued.numbers ++ l) told ∙ sym (map-append Some S.issued.numbers (map (λ y. y.trade_number) xs));
          rising = rising-append 0 b.next (b.next + count_of w) S.issued.numbers (map (λ y. y.trade_number) xs) S.issued.rising (rising-successive b.next (b.next + count_of w) (map (λ y. y.trade_number) xs) (ap (λ k. b.next + k) (sym (length-map xs (λ (y : Entry). y.trade_number) ∙ long))) follow);
          few = ends;
        }

    entered_sound : Sound (record b { next = b.next + count_of w; rows = b.rows ++ xs }) (with_filed name lot A.quantity.number A.amount.number t) (pieces ++ recs)
    entered_sound =
        filing_sound b t pieces recs S name lot n g H.named.numbered H.named.place xs f (b.next + count_of w) refl comes open_shares open_amount not_retained placed
        (entries_run e b.rows b.next (pieces_wanted w) (shares_in g.size) (unit_kind lot g) (unit_in b.groups) (ap (λ o. elim o [ Some y ↦ shares_in y.size | None ↦ 0 ]) H.named.place))
        issued

    -- read from the buffer
    replies_read : (buffer : List ℕ) → records_in b.records.reply_length (count_of w) (spliced buffer 0 (piece_replies b.records.reply line each done xs)) ≡ recs
    replies_read buffer =
        ap (λ s. records_in s.reply_length (count_of w) (spliced buffer 0 (piece_replies s.reply line each done xs))) records
        ∙ records-spliced (extent Reply) (count_of w) recs buffer (piece_replies (layout Reply) line each done xs) (of_length (layout Reply) line each (extent Reply) done (record_length layout extent fit Reply) xs) (sym (length-replies_to (layout Reply) line each done xs ∙ long)) (replies-joined (layout Reply) line each done xs)

    pub filing_step : (buffer : List ℕ) → Sound (entered b line says at).book (filing_heard b.rules p t) (pieces ++ records_in b.records.reply_length (count_of w) (spliced buffer 0 (entered b line says at).replies))
    filing_step buffer =
        subst (λ l. Sound (entered b line says at).book (filing_heard b.rules p t) (pieces ++ l)) (sym (replies_read buffer))
        (subst (λ x. Sound (entered b line says at).book x (pieces ++ recs)) (sym (heard_filing b.rules p t name lot A.quantity.number A.amount.number H.named.read H.kind_read A.quantity.read A.amount.read)) entered_sound)
