-- What is still to come of going through a ledger once. Assumes nothing.
use Rattle.std.specs.Prelude.{ℕ, List}
use Rattle.ledger.specs.declared.row.Entry.{Entry}
use Rattle.ledger.specs.declared.what.Entries.{Entries}

-- the rows from the place on, where `behind` tells those from any place on
abbrev pub to_come : {L : Type 0} → (L → ℕ → List Entry) → Entries L → List Entry
to_come behind t = behind t.ledger.now t.place
