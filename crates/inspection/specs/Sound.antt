-- The soundness of blocks in bytes that may be anything, and the entries that the sound ones hold. Assumes nothing.
use Rattle.std.specs.Prelude.{ℕ, zero, suc, ◌+◌, ◌*◌, Bool, cond, ◌&&◌, ◌||◌, List, map, take, drop, Some, None, Option, ◌==◌, nat_le, nat_lt, slice_index}
use Rattle.std.specs.List.{list_all, prefix_len, range_with_len, slice_range}
use Rattle.ledger.specs.declared.row.Entry.{Entry}
use Rattle.blocks.specs.Bytes.{four_at}
use Rattle.blocks.specs.Image.{weighed, block_at, blocks_in, rows_in}
use Rattle.inspection.specs.declared.faults.Fault.{Fault}
use Rattle.inspection.specs.declared.faults.Fault.TheVariants.{Count, Number, Checksum, Unused, Filler, Gap}
use Rattle.inspection.specs.declared.faults.Found.{Found}

-- what a block of 512 bytes says of itself: how many entries, its number, its checksum; numbers of four bytes are read in blocks
abbrev pub two_at : List ℕ → ℕ → ℕ
two_at bs i = slice_index bs i + slice_index bs (i + 1) * 256

unfoldable pub count_in : List ℕ → ℕ
count_in p = two_at p 0

unfoldable pub number_in : List ℕ → ℕ
number_in p = two_at p 2

unfoldable pub checksum_in : List ℕ → ℕ
checksum_in p = four_at p 508

-- how many zeros come first, and whether there is nothing else
abbrev pub zeros_in : List ℕ → ℕ
zeros_in bs = prefix_len (λ b. b == 0) bs

abbrev pub all_zero : List ℕ → Bool
all_zero bs = list_all (λ b. b == 0) bs

-- the places past the entries
abbrev pub unused_in : List ℕ → List ℕ
unused_in p = slice_range p (4 + 72 * count_in p) 508

-- a place, and its fillers: its second byte, and its last 19
abbrev pub place_in : ℕ → List ℕ → List ℕ
place_in s p = take 72 (drop (4 + 72 * s) p)

abbrev pub clean : List ℕ → Bool
clean place = slice_index place 1 == 0 && all_zero (drop 53 place)

-- the first c places; whether their fillers are clean, and how many come before the first whose are not
abbrev pub places_in : ℕ → List ℕ → List (List ℕ)
places_in c p = map (λ s. place_in s p) (range_with_len 0 c)

abbrev pub all_clean : ℕ → List ℕ → Bool
all_clean c p = list_all clean (places_in c p)

abbrev pub clean_before : ℕ → List ℕ → ℕ
clean_before c p = prefix_len clean (places_in c p)

-- The tests of block k, when the k blocks before it are sound and hold so many entries: its count is at most seven, its number
-- is its place, its checksum holds, unused places and fillers are zero and, if it has entries, the blocks before it are full.
abbrev pub good_count : List ℕ → Bool
good_count p = nat_le (count_in p) 7

abbrev pub good_number : ℕ → List ℕ → Bool
good_number k p = number_in p == k

abbrev pub good_checksum : List ℕ → Bool
good_checksum p = checksum_in p == weighed 1 (take 508 p)

abbrev pub good_unused : List ℕ → Bool
good_unused p = all_zero (unused_in p)

abbrev pub good_fillers : List ℕ → Bool
good_fillers p = all_clean (count_in p) p

abbrev pub good_order : ℕ → ℕ → List ℕ → Bool
good_order k held p = count_in p == 0 || held == 7 * k

-- the first test that the block fails, and where
abbrev pub fault_in : ℕ → ℕ → List ℕ → Option Fault
fault_in k held p =
    cond (good_count p)
    (cond (good_number k p)
    (cond (good_checksum p)
    (cond (good_unused p)
    (cond (good_fillers p)
    (cond (good_order k held p)
    None
    (Some (Gap held)))
    (Some (Filler (clean_before (count_in p) p))))
    (Some (Unused (4 + 72 * count_in p + zeros_in (unused_in p)))))
    (Some (Checksum (weighed 1 (take 508 p)) (checksum_in p))))
    (Some (Number (number_in p))))
    (Some (Count (count_in p)))

-- the sound blocks and their entries, from block k on, for at most f blocks
abbrev pub leads : ℕ → ℕ → ℕ → List ℕ → Found
leads zero k held bytes = record { blocks = k; entries = held }
leads (suc f) k held bytes =
    elim (fault_in k held (block_at k bytes)) [
      | None ↦ leads f (k + 1) (held + count_in (block_at k bytes)) bytes
      | Some _ ↦ record { blocks = k; entries = held }
    ]

-- how many leading blocks are sound, and how many entries they hold
abbrev pub found : List ℕ → Found
found bytes = leads (blocks_in bytes) 0 0 bytes

-- those entries
abbrev pub sound_entries : List ℕ → List Entry
sound_entries bytes = rows_in (found bytes).entries bytes

-- the test that the first unsound block fails
abbrev pub first_fault : List ℕ → Option Fault
first_fault bytes = cond (nat_lt (found bytes).blocks (blocks_in bytes)) (fault_in (found bytes).blocks (found bytes).entries (block_at (found bytes).blocks bytes)) None
