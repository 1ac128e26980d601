-- What an inspection promises: it finds all that a ledger left, and nothing that no ledger could have left. Assumes nothing.
use Rattle.std.specs.Prelude.{◌≡◌, ℕ, ◌*◌, ◌≤◌, List, All, length, take}
use Rattle.ledger.specs.declared.row.Entry.{Entry}
use Rattle.ledger.specs.Rows.{IsNarrow}
use Rattle.blocks.specs.Image.{image, blocks_in, rows_in}
use Rattle.inspection.specs.declared.faults.Found.{Found}

-- the blocks of these bytes are the image of the rows
pub record Image (bytes : List ℕ) (rows : List Entry) : Type 0 where
  pub narrow : All IsNarrow rows
  pub fits : length rows ≤ 7 * blocks_in bytes
  pub image : take (512 * blocks_in bytes) bytes ≡ image (blocks_in bytes) rows

-- the round trip: of the image of a list, all blocks are found sound, with all entries, and they are the list's
abbrev pub FindsAll : List ℕ → Found → Type 0
FindsAll bytes r = (rows : List Entry) → Image bytes rows → (r ≡ record { blocks = blocks_in bytes; entries = length rows }) × (rows_in r.entries bytes ≡ rows)

-- its converse: the blocks that are found sound are the image of the entries that are read
abbrev pub FindsOnly : List ℕ → Found → Type 0
FindsOnly bytes r = take (512 * r.blocks) bytes ≡ image r.blocks (rows_in r.entries bytes)
