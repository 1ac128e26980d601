-- A filing whose grounds were all judged fits: entry by entry no figure comes over what is traded.
use Rattle.std.proofs.Common.{All, ◌≡◌, ℕ, ◌+◌, ◌*◌, ◌^◌, ◌<◌, ◌≤◌, Bool, true, false, cond, ◌&&◌, List, ◌++◌, length, sum_by, is_some, Some, None, Option, unwrap_or, ◌⊎◌, inl, inr, refl, sym, ap, ◌∙◌, ⊎_elim, arith}
use Rattle.std.proofs.Math.Nat.{mul-le-mul_right, le-mul_of_pos_right}
use Rattle.std.proofs.lemmas.Bool.{and_parts, or_cases, leb-true, ltb-false, eqb-true, not-false}
use Rattle.std.proofs.lemmas.List.Elements.{All-append, All-weaker, All-same}
use Rattle.std.proofs.lemmas.List.Sums.{sum_by-le-sum_by, get_or-le-sum_by}
use Rattle.ledger.specs.Rows.{picked, of_kind, of_type, quantity_of, worth_of}
use Rattle.ledger.specs.declared.row.Entry.{Entry}
use Rattle.octets.specs.Options.{and_then}
use Rattle.lots.specs.Limits.{quantity_fits, amount_fits, price_fits}
use Rattle.lots.specs.Pieces.{piece_worth, Pieced}
use Rattle.lots.specs.Split.{Run, quantity, price, Exact}
use Rattle.lots.specs.Units.{shares_to_unit, kind_number, whole_cents}
use Rattle.lots.specs.declared.cut.Piece.{Piece}
use Rattle.lots.specs.declared.units.Kind.{Kind}
use Rattle.lots.specs.declared.units.Kind.TheVariants.{BoardLot, OddLot}
use Rattle.lots.specs.declared.units.UnitSize.{UnitSize}
use Rattle.lots.proofs.Figures.{unit_range, quantity_range, amount_range, exact_runs, pieces-quantity, pieces-worth}
use Rattle.lots.proofs.Cutting.{pieces-law}
use Rattle.families.specs.declared.family.Rules.{Rules}
use Rattle.families.specs.declared.figures.Filed.{Filed}
use Rattle.layout.specs.Layouts.{width_of}
use Rattle.layout.specs.declared.field.Field.{Field}
use Rattle.groups.specs.Sums.{shares_for, cents_for, SharesFit, CentsFit}
use Rattle.groups.specs.declared.kept.Total.{Total}
use Rattle.judge.specs.Grounds.{first_of}
use Rattle.judge.specs.Terms.{passing, wanted_of, terms_grounds}
use Rattle.judge.specs.Wanted.{shares_wanted, pieces_wanted, count_of}
use Rattle.judge.specs.declared.heading.Target.{Target}
use Rattle.judge.specs.declared.terms.Wanted.{Wanted}
use Rattle.judge.proofs.Firsts.{none_all}
use Rattle.lines.specs.Open.{held_shares, held_worth, standing_at}
use Rattle.lines.specs.Entries.{each_of, entering_of, row_worth, Room}
use Rattle.lines.specs.Enter.{held_in, type_of, before_in, HoldsFit, entries_in, Fits}
use Rattle.lines.specs.Room.{room_grounds}
use Rattle.lines.specs.PieceReplies.{piece_replies}
use Rattle.lines.specs.declared.entries.Entering.{Entering}
use Rattle.lines.specs.declared.open.Standing.{Standing}
use Rattle.lines.proofs.EntriesLaw.{entered, length-entries}
use Rattle.lines.proofs.PieceLengths.{length-replies}

-- what passes a test
passes-at : {A : Type 0} (test : A → Bool) (x d : A) (b : Bool) → test x ≡ b → is_some (cond b (Some x) None) ≡ true → test (unwrap_or (cond b (Some x) None) d) ≡ true
passes-at test x d true e h = e
passes-at test x d false e h = cc

passes : {A : Type 0} (test : A → Bool) (o : Option A) (d : A) → is_some (passing test o) ≡ true → test (unwrap_or (passing test o) d) ≡ true
passes test None d h = cc
passes test (Some x) d h = passes-at test x d (test x) refl h

-- a filing's quantity, its amount and the prices of its runs are within their ranges
pub record Terms (r : Rules) (t : Target) (w : Wanted) : Type 0 where
  pub quantity : quantity_fits t.kind t.place.group.size r.most_units.count w.quantity ≡ true
  pub amount : amount_fits t.kind t.place.group.size w.amount.count ≡ true
  pub first : price_fits w.runs.0 ≡ true
  pub second : price_fits w.runs.1 ≡ true

pub terms : (r : Rules) (t : Target) (f : Filed) → first_of (terms_grounds r t f) ≡ None → Terms r t (wanted_of r t f)
terms r t f h =
    let all = none_all (terms_grounds r t f) h in
    let prices = and_parts _ _ (not-false _ all.1.1.1.1.0) in
    record {
      quantity = passes (λ q. quantity_fits t.kind t.place.group.size r.most_units.count q) f.common.quantity 0 (not-false _ all.1.1.0);
      amount = passes (λ c. amount_fits t.kind t.place.group.size c.count) (and_then f.common.amount whole_cents) (record { count = 0 }) (not-false _ all.1.1.1.0);
      first = prices.0;
      second = prices.1;
    }

-- what is held

-- entries of one order type hold no more than all
of_type-le : (a b : Bool) (q : ℕ) → cond (a && b) q 0 ≤ cond (a && true) q 0
of_type-le true true q = omega arith
of_type-le true false q = omega arith
of_type-le false b q = omega arith

quantity_of_type : (rows : List Entry) (n k t : ℕ) → quantity_of (picked n k (Some t)) rows ≤ quantity_of (picked n k None) rows
quantity_of_type rows n k t = sum_by-le-sum_by _ _ rows (λ x. of_type-le (of_kind n k x) (of_type (Some t) x) x.quantity)

amount_of_type : (rows : List Entry) (n k t : ℕ) → worth_of (picked n k (Some t)) rows ≤ worth_of (picked n k None) rows
amount_of_type rows n k t = sum_by-le-sum_by _ _ rows (λ x. of_type-le (of_kind n k x) (of_type (Some t) x) (x.quantity * x.price))

-- entries of one kind hold no more than both kinds
shares_of_kind : (rows : List Entry) (n : ℕ) (size : UnitSize) (kind : Kind) → quantity_of (picked n (kind_number kind) None) rows * shares_to_unit kind size ≤ held_shares n size rows
shares_of_kind rows n size BoardLot = omega arith
shares_of_kind rows n size OddLot = omega arith

cents_of_kind : (rows : List Entry) (n : ℕ) (size : UnitSize) (kind : Kind) → worth_of (picked n (kind_number kind) None) rows * shares_to_unit kind size ≤ held_worth n size rows
cents_of_kind rows n size BoardLot = omega arith
cents_of_kind rows n size OddLot = omega arith

-- what the tests on the terms say

price_fits_lem : (r : Run) → price_fits r ≡ true → (quantity r ≡ 0) ⊎ (price r < 2 ^ 32)
price_fits_lem r h =
    ⊎_elim
    (λ e. inl (eqb-true (quantity r) 0 e))
    (λ p. inr (omega (arith, leb-true (price r) 9999999 (and_parts _ _ p).1)))
    (or_cases _ _ h)

-- what the grounds on room say
record Passed (used capacity : ℕ) (s : Standing) (w : Wanted) (next space each : ℕ) : Type 0 where
  shares : shares_wanted w ≤ s.open_shares.count
  amount : w.amount.count ≤ s.open_amount.count
  trades : next + count_of w ≤ 100000000
  places : used + count_of w ≤ capacity
  replies : count_of w * each ≤ space

passed : (used capacity : ℕ) (s : Standing) (w : Wanted) (next space each : ℕ) → first_of (room_grounds used capacity s w next space each) ≡ None → Passed used capacity s w next space each
passed used capacity s w next space each h =
    let t = none_all (room_grounds used capacity s w next space each) h in
    record {
      shares = ltb-false s.open_shares.count (shares_wanted w) t.0;
      amount = ltb-false s.open_amount.count w.amount.count t.1.0;
      trades = ltb-false 100000000 (next + count_of w) t.1.1.0;
      places = ltb-false capacity (used + count_of w) t.1.1.1.0;
      replies = ltb-false space (count_of w * each) t.1.1.1.1.0;
    }

-- each is within the sum
each-below : {X : Type 0} (f : X → ℕ) (m : ℕ) (xs : List X) → sum_by f xs < m → All (λ x. f x < m) xs
each-below f m xs h = λ k d lt. omega (arith, get_or-le-sum_by f xs k d lt)

module _ (totals : List Total) (rows : List Entry) (r : Rules) (t : Target) (f : Filed) (few : r.most_units.count ≤ 10000) (shares_fit : SharesFit totals) (cents_fit : CentsFit totals) (good : Terms r t (wanted_of r t f)) where
  abbrev n : ℕ
  n = t.place.number

  abbrev size : UnitSize
  size = t.place.group.size

  abbrev s : Standing
  s = standing_at totals rows n t.place.group

  abbrev e : Entering
  e = entering_of r t f

  abbrev w : Wanted
  w = wanted_of r t f

  abbrev unit : ℕ
  unit = shares_to_unit t.kind size

  some : 0 < unit
  some = (unit_range t.kind size).0

  quantities : (0 < w.quantity) × (r.most_units.count ≤ 10000 → w.quantity ≤ 10000)
  quantities = quantity_range t.kind size r.most_units.count w.quantity good.quantity

  exact : Exact w.quantity unit w.amount.count w.runs
  exact = exact_runs t.kind size r.most_units.count w.quantity w.amount.count good.quantity good.amount

  pieces : Pieced w.cut w.runs (pieces_wanted w)
  pieces = pieces-law w.cut w.runs

  first-price : price w.runs.0 < 2 ^ 32
  first-price = ⊎_elim (λ none. absurd (omega (arith, none, exact.first))) (λ h. h) (price_fits_lem w.runs.0 good.first)

  second-price : price w.runs.1 < 2 ^ 32
  second-price = ⊎_elim (λ none. omega (arith, ap price (exact.empty none))) (λ h. h) (price_fits_lem w.runs.1 good.second)

  of-price : (p : Run) (ps : List Piece) → price p < 2 ^ 32 → All (λ x. x.price ≡ p.1) ps → All (λ x. x.price.count < 2 ^ 32) ps
  of-price p ps h = All-weaker (λ x. x.price ≡ p.1) (λ x. x.price.count < 2 ^ 32) (λ x k. omega (arith, ap (λ c. c.count) k)) ps

  prices : All (λ x. x.price.count < 2 ^ 32) (pieces_wanted w)
  prices =
      let both = All-append (λ x. x.price.count < 2 ^ 32) pieces.front pieces.back (of-price w.runs.0 pieces.front first-price pieces.first.prices) (of-price w.runs.1 pieces.back second-price pieces.second.prices) in
      All-same (λ x. x.price.count < 2 ^ 32) (pieces_wanted w) (pieces.front ++ pieces.back) pieces.order both

  module _ (used capacity next space long : ℕ) (p : Passed used capacity s w next space long) where
    -- what is held and what is asked for stay within what is traded
    all-shares : (held_in rows e None).quantity + w.quantity ≤ 99999999
    all-shares =
        let held : ℕ = quantity_of (picked n (kind_number t.kind) None) rows in
        let kind : held * unit ≤ held_shares n size rows = shares_of_kind rows n size t.kind in
        let a : held ≤ held * unit = le-mul_of_pos_right held some in
        let b : w.quantity ≤ w.quantity * unit = le-mul_of_pos_right w.quantity some in
        let traded : sum_by (shares_for n) totals ≤ 99999999 = shares_fit n in
        omega (arith, quantities.0, p.shares, kind, a, b, traded)

    all-cents : (held_in rows e None).amount * unit + w.amount.count ≤ 99999999999999
    all-cents =
        let kind : worth_of (picked n (kind_number t.kind) None) rows * unit ≤ held_worth n size rows = cents_of_kind rows n size t.kind in
        let traded : sum_by (cents_for n) totals ≤ 99999999999999 = cents_fit n in
        omega (arith, (amount_range t.kind size w.amount.count good.amount).0, p.amount, kind, traded)

    type-shares : (held_in rows e (type_of e)).quantity ≤ (held_in rows e None).quantity
    type-shares = quantity_of_type rows n (kind_number t.kind) e.order_type

    type-cents : (held_in rows e (type_of e)).amount * unit ≤ (held_in rows e None).amount * unit
    type-cents = mul-le-mul_right unit (amount_of_type rows n (kind_number t.kind) e.order_type)

    held : HoldsFit e (held_in rows e None) (held_in rows e (type_of e))
    held = record {
      quantity = omega (arith, all-shares);
      amount = omega (arith, all-cents);
      type_quantity = omega (arith, all-shares, type-shares);
      type_amount = omega (arith, all-cents, type-cents);
    }

    either : (b : Bool) (x y z m : ℕ) → x ≤ y → y + z ≤ m → cond b x 0 + z ≤ m
    either true x y z m h k = omega arith
    either false x y z m h k = omega arith

    worths : sum_by (piece_worth unit) (pieces_wanted w) ≡ w.amount.count
    worths = pieces-worth w.cut exact

    figures : Room e (before_in rows e next) (pieces_wanted w)
    figures = record {
      trades = omega (arith, p.trades);
      quantities = omega (arith, all-shares, pieces-quantity w.cut exact);
      amounts = omega (arith, all-cents, worths);
      type_quantities = omega (arith, either e.by_type (held_in rows e (type_of e)).quantity (held_in rows e None).quantity w.quantity 99999999 type-shares all-shares, pieces-quantity w.cut exact);
      type_amounts = omega (arith, either e.by_type ((held_in rows e (type_of e)).amount * unit) ((held_in rows e None).amount * unit) w.amount.count 99999999999999 type-cents all-cents, worths);
      prices = prices;
    }

    entries : length (entries_in rows e next w) ≡ count_of w
    entries = length-entries e (before_in rows e next) (pieces_wanted w)

    entry-worths : sum_by (row_worth unit) (entries_in rows e next w) ≡ w.amount.count
    entry-worths = (entered e (before_in rows e next) (pieces_wanted w)).amounts ∙ worths

-- a filing of good terms to which no ground on room applies has room
pub fits : (totals : List Total) (rows : List Entry) (r : Rules) (t : Target) (f : Filed) (capacity next : ℕ) (fs : List Field) (line : List ℕ) (completes : Bool) (space each : ℕ) →
    r.most_units.count ≤ 10000 → SharesFit totals → CentsFit totals → each ≡ width_of fs →
    first_of (terms_grounds r t f) ≡ None →
    first_of (room_grounds (length rows) capacity (standing_at totals rows t.place.number t.place.group) (wanted_of r t f) next space each) ≡ None →
    Fits rows capacity (entering_of r t f) (wanted_of r t f) next fs line completes space
fits totals rows r t f capacity next fs line completes space each few shares cents wide none_of_terms none =
    let good = terms r t f none_of_terms in
    let s = standing_at totals rows t.place.number t.place.group in
    let e = entering_of r t f in
    let w = wanted_of r t f in
    let p = passed (length rows) capacity s w next space each none in
    let xs = entries_in rows e next w in
    let long : length xs ≡ count_of w = entries totals rows r t f few shares cents good (length rows) capacity next space each p in
    let whole : sum_by (row_worth (each_of e)) xs ≡ w.amount.count = entry-worths totals rows r t f few shares cents good (length rows) capacity next space each p in
    let bound = all-cents totals rows r t f few shares cents good (length rows) capacity next space each p in
    let told : length (piece_replies fs line (each_of e) completes xs) ≡ count_of w * each = length-replies fs line (each_of e) completes xs ∙ (λ j. long j * sym wide j) in
    record {
      held = held totals rows r t f few shares cents good (length rows) capacity next space each p;
      figures = figures totals rows r t f few shares cents good (length rows) capacity next space each p;
      few = (pieces totals rows r t f few shares cents good).few (omega (arith, (quantities totals rows r t f few shares cents good).1 few, (exact totals rows r t f few shares cents good).quantities));
      places = omega (arith, long, p.places);
      worths = each-below (row_worth (each_of e)) (2 ^ 64) xs (omega (arith, whole, bound));
      replies = omega (arith, told, p.replies);
    }
