-- The image of a list of entries in blocks of 512 bytes, seven entries to a block. Assumes nothing.
use Rattle.std.specs.Prelude.{◌≡◌, ℕ, zero, suc, ◌+◌, ◌-◌, ◌*◌, ◌/◌, ◌%◌, ◌<◌, min, List, [], ◌∷◌, ◌++◌, map, length, take, drop, replicate}
use Rattle.std.specs.List.{range_with_len, flat_map}
use Rattle.ledger.specs.declared.row.Entry.{Entry}
use Rattle.blocks.specs.Bytes.{entry_bytes, entry_of, four}

-- the sum of byte × (place + 1), the places counted from i - 1
abbrev pub weighed : ℕ → List ℕ → ℕ
weighed i [] = 0
weighed i (b ∷ bs) = b * i + weighed (i + 1) bs

-- seven places for entries, the unused ones zero
unfoldable pub body : List Entry → List ℕ
body es = flat_map entry_bytes es ++ replicate (504 - 72 * length es) 0

-- how many entries (2 bytes), the block's number (2 bytes), and the places
unfoldable pub headed : ℕ → ℕ → List ℕ → List ℕ
headed count number places = count ∷ 0 ∷ number % 256 ∷ number / 256 % 256 ∷ places

-- with the checksum of all that
unfoldable pub sealed : ℕ → ℕ → List ℕ → List ℕ
sealed count number places = headed count number places ++ four (weighed 1 (headed count number places)) []

unfoldable pub block : ℕ → List Entry → List ℕ
block number es = sealed (length es) number (body es)

-- the entries that belong in block k
abbrev pub chunk : ℕ → List Entry → List Entry
chunk k rows = take 7 (drop (7 * k) rows)

-- the image of the rows in n blocks
abbrev pub image : ℕ → List Entry → List ℕ
image zero rows = []
image (suc k) rows = image k rows ++ block k (chunk k rows)

-- memory that was lent, with the image of the rows in its first n blocks
abbrev pub filled : ℕ → List Entry → List ℕ → List ℕ
filled n rows lent = image n rows ++ drop (512 * n) lent

-- the whole blocks of some memory, at most 1,142 of them
abbrev pub most_blocks : ℕ
most_blocks = 1142

abbrev pub blocks_in : List ℕ → ℕ
blocks_in lent = min most_blocks (length lent / 512)

-- lent memory with the image of the rows in all its blocks
abbrev pub image_in : List ℕ → List Entry → List ℕ
image_in lent rows = filled (blocks_in lent) rows lent

-- block k of some bytes
abbrev pub block_at : ℕ → List ℕ → List ℕ
block_at k bytes = take 512 (drop (512 * k) bytes)

-- some bytes with block k written anew
abbrev pub written : ℕ → List ℕ → List ℕ → List ℕ
written k new bytes = take (512 * k) bytes ++ (new ++ drop 512 (drop (512 * k) bytes))

-- the first n blocks are the image of the rows, block by block
abbrev pub Holds : ℕ → List Entry → List ℕ → Type 0
Holds n rows bytes = (k : ℕ) → k < n → block_at k bytes ≡ block k (chunk k rows)

-- where entry i begins, its bytes, and the first m entries
abbrev pub place : ℕ → ℕ
place i = 512 * (i / 7) + (4 + 72 * (i % 7))

abbrev pub slot : List ℕ → ℕ → List ℕ
slot bytes i = take 72 (drop (place i) bytes)

abbrev pub rows_in : ℕ → List ℕ → List Entry
rows_in m bytes = map (λ i. entry_of (slot bytes i)) (range_with_len 0 m)
