-- The words of a table. Assumes nothing.
use Rattle.std.specs.Prelude.{ℕ, List, [], ◌∷◌, length, take, drop}
use Rattle.ledger.specs.declared.row.Entry.{Entry}
use Rattle.ledger.specs.declared.table.Table.{Table}
use Rattle.ledger.specs.Lent.{Lent}

-- the rows of a table, and how many it has room for
abbrev pub rows : Table → List Entry
rows t = take t.len t.entries.now

abbrev pub room : Table → ℕ
room t = length t.entries.now

-- the caller's entries; every place of them is the table's
abbrev pub lent : Table → Lent
lent t = record { owners = t.entries.ghost_name ∷ []; past = [] }

-- a place is the number of a row
abbrev pub behind : Table → ℕ → List Entry
behind t place = drop place (rows t)
