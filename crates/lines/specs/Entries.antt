-- The entries that the pieces of a filing become: first what is promised of them, then how they are made. Assumes nothing.
use Rattle.std.specs.Prelude.{All, ◌≡◌, ℕ, ◌+◌, ◌*◌, ◌^◌, ◌<◌, cond, List, [], ◌∷◌, ◌++◌, length, sum_by, unwrap_or}
use Rattle.std.specs.Option.{option_map}
use Rattle.families.specs.declared.family.Rules.{Rules}
use Rattle.families.specs.declared.figures.Filed.{Filed}
use Rattle.judge.specs.Heading.{lot_of}
use Rattle.judge.specs.declared.heading.Target.{Target}
use Rattle.ledger.specs.declared.row.Entry.{Entry}
use Rattle.lots.specs.Pieces.{piece_worth}
use Rattle.lots.specs.Units.{kind_number, shares_to_unit}
use Rattle.lots.specs.declared.cut.Piece.{Piece}
use Rattle.lines.specs.declared.entries.Entering.{Entering}
use Rattle.lines.specs.declared.entries.Before.{Before}

-- what the entries of a filing have in common: 0 stands for a field that a ground refuses
abbrev pub entering_of : Rules → Target → Filed → Entering
entering_of r t f = record {
  group = t.place.number;
  lot = lot_of t;
  order = unwrap_or f.common.order (record { first = 0; rest = 0 });
  new_broker = unwrap_or f.new_broker 0;
  new_account = unwrap_or (option_map (λ i. i.number) f.common.investor) 0;
  order_type = unwrap_or f.order_type 0;
  by_type = r.order_type;
}

-- the shares in one of what the quantity counts
abbrev pub each_of : Entering → ℕ
each_of e = shares_to_unit e.lot.kind e.lot.size

-- shares times price of an entry in units of s shares
abbrev pub row_worth : ℕ → Entry → ℕ
row_worth s x = (x.quantity * s) * x.price

-- an entry's running figures are the sums down to it, the entry included, and its trade number is the next
pub record Runs (e : Entering) (b : Before) (before : List Entry) (x : Entry) : Type 0 where
  pub quantity : x.running_quantity ≡ b.quantity + sum_by (λ y. y.quantity) before + x.quantity
  pub amount : x.running_amount ≡ b.amount + sum_by (row_worth (each_of e)) before + row_worth (each_of e) x
  pub number : x.trade_number ≡ b.trade_number + length before

-- an entry is of the filing's group and kind, and says what was filed
pub record Says (e : Entering) (x : Entry) : Type 0 where
  pub group : x.group ≡ e.group
  pub kind : x.kind ≡ kind_number e.lot.kind
  pub order_type : x.order_type ≡ e.order_type
  pub order : x.order ≡ e.order
  pub new_broker : x.new_broker ≡ e.new_broker
  pub new_account : x.new_account ≡ e.new_account

-- the entries come out to the pieces, no share and no cent more or less
pub record Entered (e : Entering) (b : Before) (ps : List Piece) (xs : List Entry) : Type 0 where
  pub quantities : sum_by (λ x. x.quantity) xs ≡ sum_by (λ p. p.quantity) ps
  pub amounts : sum_by (row_worth (each_of e)) xs ≡ sum_by (piece_worth (each_of e)) ps
  pub says : All (Says e) xs
  pub running : (before : List Entry) (x : Entry) (behind : List Entry) → xs ≡ before ++ x ∷ behind → Runs e b before x

-- the running figures and the trade number behind a piece
abbrev pub after : Entering → Before → Piece → Before
after e b p = record {
  trade_number = b.trade_number + 1;
  quantity = b.quantity + p.quantity;
  amount = b.amount + piece_worth (each_of e) p;
  type_quantity = cond e.by_type (b.type_quantity + p.quantity) 0;
  type_amount = cond e.by_type (b.type_amount + piece_worth (each_of e) p) 0;
}

-- a piece as an entry: its running figures include it
abbrev pub entry_after : Entering → Before → Piece → Entry
entry_after e b p = record {
  group = e.group;
  kind = kind_number e.lot.kind;
  order_type = e.order_type;
  order = e.order;
  new_broker = e.new_broker;
  new_account = e.new_account;
  quantity = p.quantity;
  price = p.price.count;
  trade_number = b.trade_number;
  running_quantity = (after e b p).quantity;
  running_amount = (after e b p).amount;
  type_quantity = (after e b p).type_quantity;
  type_amount = (after e b p).type_amount;
}

-- the pieces in order, each under the next trade number
abbrev pub entries_from : Entering → Before → List Piece → List Entry
entries_from e b [] = []
entries_from e b (p ∷ ps) = entry_after e b p ∷ entries_from e (after e b p) ps

-- the figures of these pieces fit an entry's
pub record Room (e : Entering) (b : Before) (ps : List Piece) : Type 0 where
  pub trades : b.trade_number + length ps < 2 ^ 32
  pub quantities : b.quantity + sum_by (λ p. p.quantity) ps < 2 ^ 32
  pub amounts : b.amount + sum_by (piece_worth (each_of e)) ps < 2 ^ 64
  pub type_quantities : b.type_quantity + sum_by (λ p. p.quantity) ps < 2 ^ 32
  pub type_amounts : b.type_amount + sum_by (piece_worth (each_of e)) ps < 2 ^ 64
  pub prices : All (λ p. p.price.count < 2 ^ 32) ps
