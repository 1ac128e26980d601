-- The words of a ledger in blocks. Assumes nothing.
use Rattle.std.specs.Prelude.{ℕ, ◌*◌, ◌/◌, List, [], ◌∷◌, ◌++◌, drop}
use Rattle.std.specs.Borrow.{MutBor}
use Rattle.ledger.specs.declared.row.Entry.{Entry}
use Rattle.ledger.specs.Lent.{Lent}
use Rattle.blocks.specs.declared.filled.Blocks.{Blocks}
use Rattle.blocks.specs.Image.{image, rows_in}

-- the rows of its entries, and how many it has room for
abbrev pub rows : Blocks → List Entry
rows t = rows_in t.len t.bytes.now

abbrev pub room : Blocks → ℕ
room t = 7 * t.blocks

-- what a reference to some bytes lends, whose first n blocks are the ledger's
abbrev pub lent_by : MutBor (List ℕ) → ℕ → Lent
lent_by bytes n = record { owners = bytes.ghost_name ∷ []; past = drop (512 * n) bytes.now }

abbrev pub lent : Blocks → Lent
lent t = lent_by t.bytes t.blocks

-- all the bytes of a ledger, by its rows, its room and what it was lent
abbrev pub bytes_of : List Entry → ℕ → Lent → List ℕ
bytes_of rows room lent = image (room / 7) rows ++ lent.past

-- a place is the number of a row
abbrev pub behind : Blocks → ℕ → List Entry
behind t place = drop place (rows t)
