-- Entries that stay when others are taken out. Assumes nothing.
use Rattle.std.specs.Prelude.{◌≡◌, ℕ, ◌+◌, ◌*◌, ◌<◌, ◌≤◌, List, length}
use Rattle.ledger.specs.declared.row.Entry.{Entry}
use Rattle.blocks.specs.Image.{body, block, chunk, block_at}

-- of the kept entries, b blocks are written and the rest stand in mid; from block b on the bytes hold the old rows
pub record Sifting (kept rows : List Entry) (n : ℕ) (bytes mid : List ℕ) (b at : ℕ) : Type 0 where
  pub count : length kept ≡ 7 * b + at
  pub small : at < 7
  pub laid : mid ≡ body (chunk b kept)
  pub done : (k : ℕ) → k < b → block_at k bytes ≡ block k (chunk k kept)
  pub left : (k : ℕ) → b ≤ k → k < n → block_at k bytes ≡ block k (chunk k rows)
