-- Of an image every block is found sound, and what is found sound is an image. Assumes nothing.
use Rattle.std.proofs.Common.{◌≡◌, ℕ, zero, suc, ◌+◌, ◌-◌, ◌*◌, ◌/◌, ◌%◌, ◌<◌, ◌≤◌, min, eqb, ◌⊎◌, List, [], map, length, take, drop, Some, None, Option, sym, refl, ap, ◌∙◌, subst, inl, inr, ⊎_elim, arith, length-append, length-drop, length-take}
use Rattle.std.specs.List.{range_with_len, All}
use Rattle.std.proofs.lemmas.List.FromFn.{get_or-map-range_with_len, length-map-range_with_len}
use Rattle.std.proofs.lemmas.List.Elements.{All-take, All-drop, All-weaker}
use Rattle.std.proofs.lemmas.List.{append-nil, take_at, drop_at, drop-drop, drop-append-le, take-append-le, same_lists, get_or-take, get_or-drop}
use Rattle.std.proofs.lemmas.Bool.{cases_lt, cases_eq, eqb-true, or_cases}
use Rattle.ledger.specs.declared.row.Entry.{Entry}
use Rattle.ledger.specs.Rows.{IsNarrow}
use Rattle.blocks.specs.Bytes.{entry_of}
use Rattle.blocks.specs.Image.{block, chunk, image, block_at, blocks_in, Holds, place, slot, rows_in}
use Rattle.blocks.proofs.Entries.{entry-back}
use Rattle.blocks.proofs.Holding.{length-block, length-chunk, length-rows_in, decoded, Faithful}
use Rattle.blocks.proofs.Images.{holds-image}
use Rattle.blocks.proofs.Laying.{window}
use Rattle.inspection.specs.declared.faults.Fault.{Fault}
use Rattle.inspection.specs.declared.faults.Found.{Found}
use Rattle.inspection.specs.Laws.{FindsAll, FindsOnly}
use Rattle.inspection.specs.Sound.{count_in, place_in, fault_in, leads, found}
use Rattle.inspection.proofs.Leading.{onward}
use Rattle.inspection.proofs.OneBlock.{Passes, no-fault-from, block-passes, count-is, passes-from, few-from, entries_in, block-is}
use Rattle.inspection.proofs.Spelling.{Bytes, bytes-part}

-- an image, block by block

length-image : (n : ℕ) (rows : List Entry) → length (image n rows) ≡ 512 * n
length-image zero rows = omega arith
length-image (suc n) rows =
    omega (arith, length-append (image n rows) (block n (chunk n rows)), length-image n rows, length-block n (chunk n rows) (length-chunk n rows))

image-block : (n k : ℕ) (rows : List Entry) → k < n → block_at k (image n rows) ≡ block k (chunk k rows)
image-block zero k rows h = absurd (omega arith)
image-block (suc n) k rows h =
    let long = length-image n rows in
    let last : List ℕ = block n (chunk n rows) in
    ⊎_elim
    (λ same.
    subst (λ j. block_at j (image (suc n) rows) ≡ block j (chunk j rows)) (sym same)
    (ap (take 512) (drop_at (image n rows) last (512 * n) long) ∙ ap (take 512) (sym (append-nil last)) ∙ take_at last [] 512 (length-block n (chunk n rows) (length-chunk n rows))))
    (λ ne.
    ap (take 512) (drop-append-le (512 * k) (image n rows) last (omega arith)) ∙
    take-append-le 512 (drop (512 * k) (image n rows)) last (omega (arith, length-drop (512 * k) (image n rows))) ∙
    image-block n k rows (omega arith))
    (cases_eq k n)

holds-from : (n : ℕ) (rows : List Entry) (bytes : List ℕ) → take (512 * n) bytes ≡ image n rows → Holds n rows bytes
holds-from n rows bytes e k lt = sym (window bytes (512 * k) 512 (512 * n) (omega arith)) ∙ ap (block_at k) e ∙ image-block n k rows lt

-- the round trip

all-faithful : (rows : List Entry) → All IsNarrow rows → All Faithful rows
all-faithful rows h = All-weaker IsNarrow Faithful entry-back rows h

leads-all : (f k n : ℕ) (rows : List Entry) (bytes : List ℕ) → k + f ≡ n → n ≤ 1142 → Holds n rows bytes → length rows ≤ 7 * n → All IsNarrow rows →
    leads f k (min (7 * k) (length rows)) bytes ≡ record { blocks = n; entries = length rows }
leads-all zero k n rows bytes e most holds fits narrow =
    let a : k ≡ n = omega arith in
    let b : min (7 * k) (length rows) ≡ length rows = omega arith in
    (λ i. record { blocks = a i; entries = b i })
leads-all (suc f) k n rows bytes e most holds fits narrow =
    let held : ℕ = min (7 * k) (length rows) in
    let es : List Entry = chunk k rows in
    let few = length-chunk k rows in
    let here : block_at k bytes ≡ block k (chunk k rows) = holds k (omega arith) in
    let mine : All IsNarrow (chunk k rows) = All-take IsNarrow 7 (drop (7 * k) rows) (All-drop IsNarrow (7 * k) rows narrow) in
    let long : length (chunk k rows) ≡ min 7 (length rows - 7 * k) = length-take 7 (drop (7 * k) rows) ∙ ap (min 7) (length-drop (7 * k) rows) in
    let ways : (length (chunk k rows) ≡ 0) ⊎ (min (7 * k) (length rows) ≡ 7 * k) = ⊎_elim (λ l. inl (omega arith)) (λ l. inr (omega arith)) (cases_lt (length rows) (7 * k)) in
    let low : k < 65536 = omega arith in
    let fine : fault_in k held (block_at k bytes) ≡ None = ap (fault_in k held) here ∙ no-fault-from k held (block k es) (block-passes k es low few mine held ways) in
    let count : count_in (block_at k bytes) ≡ length (chunk k rows) = ap count_in here ∙ count-is k es low few mine in
    let next : min (7 * k) (length rows) + count_in (block_at k bytes) ≡ min (7 * (k + 1)) (length rows) = omega arith in
    ap (λ o. onward o f k held bytes) fine ∙ ap (λ h. leads f (k + 1) h bytes) next ∙ leads-all f (k + 1) n rows bytes (omega arith) most holds fits narrow

pub finds-all : (bytes : List ℕ) → FindsAll bytes (found bytes)
finds-all bytes rows is =
    let n : ℕ = blocks_in bytes in
    let holds : Holds n rows bytes = holds-from n rows bytes is.image in
    let start : 0 ≡ min (7 * 0) (length rows) = omega arith in
    let all : found bytes ≡ record { blocks = n; entries = length rows } =
    ap (λ h. leads n 0 h bytes) start ∙ leads-all n 0 n rows bytes (omega arith) (omega arith) holds is.fits is.narrow in (
      all,
      ap (λ r. rows_in r.entries bytes) all ∙ decoded n (length rows) rows bytes holds refl is.fits (all-faithful rows is.narrow),
    )

-- its converse

-- the entries of block j among the first m, by their slots
chunk-rows : (m j : ℕ) (bytes : List ℕ) → chunk j (rows_in m bytes) ≡ map (λ s. entry_of (slot bytes (7 * j + s))) (range_with_len 0 (min 7 (m - 7 * j)))
chunk-rows m j bytes =
    let rows : List Entry = rows_in m bytes in
    let long = length-rows_in m bytes in
    let mine : length (chunk j rows) ≡ min 7 (m - 7 * j) = length-take 7 (drop (7 * j) rows) ∙ ap (min 7) (length-drop (7 * j) rows ∙ ap (λ n. n - 7 * j) long) in
    let theirs = length-map-range_with_len (λ s. entry_of (slot bytes (7 * j + s))) 0 (min 7 (m - 7 * j)) in
    same_lists (chunk j rows) (map (λ s. entry_of (slot bytes (7 * j + s))) (range_with_len 0 (min 7 (m - 7 * j)))) (mine ∙ sym theirs)
    (λ i d lt.
    get_or-take 7 (drop (7 * j) rows) i d (omega arith) ∙ get_or-drop (7 * j) rows i d ∙
    get_or-map-range_with_len (λ s. entry_of (slot bytes s)) 0 m (7 * j + i) (7 * j + i) d (omega arith) (omega arith) ∙
    sym (get_or-map-range_with_len (λ s. entry_of (slot bytes (7 * j + s))) 0 (min 7 (m - 7 * j)) i i d (omega arith) (omega arith)))

-- a slot of a block, by its place in the block
slot-place : (k s : ℕ) (bytes : List ℕ) → s < 7 → slot bytes (7 * k + s) ≡ place_in s (block_at k bytes)
slot-place k s bytes lt =
    let q : (7 * k + s) / 7 ≡ k = omega arith in
    let r : (7 * k + s) % 7 ≡ s = omega arith in
    (λ i. take 72 (drop (512 * q i + (4 + 72 * r i)) bytes)) ∙
    ap (take 72) (sym (drop-drop (4 + 72 * s) (512 * k) bytes)) ∙
    sym (window (drop (512 * k) bytes) (4 + 72 * s) 72 512 (omega arith))

map_same : (f g : ℕ → Entry) (c : ℕ) → ((s : ℕ) → s < c → f s ≡ g s) → map f (range_with_len 0 c) ≡ map g (range_with_len 0 c)
map_same f g c e =
    let a = length-map-range_with_len f 0 c in
    let b = length-map-range_with_len g 0 c in
    same_lists (map f (range_with_len 0 c)) (map g (range_with_len 0 c)) (a ∙ sym b)
    (λ i d lt. get_or-map-range_with_len f 0 c i i d (omega arith) (omega arith) ∙ e i (omega arith) ∙ sym (get_or-map-range_with_len g 0 c i i d (omega arith) (omega arith)))

module _ (k held c : ℕ) (bytes : List ℕ) (few : c ≤ 7) (fits : held ≤ 7 * k) (ways : (c ≡ 0) ⊎ (held ≡ 7 * k)) where
  chunk-before : (j : ℕ) → j < k → chunk j (rows_in (held + c) bytes) ≡ chunk j (rows_in held bytes)
  chunk-before j lt =
      let same : min 7 (held + c - 7 * j) ≡ min 7 (held - 7 * j) = ⊎_elim (λ none. omega arith) (λ full. omega arith) ways in
      chunk-rows (held + c) j bytes ∙ ap (λ n. map (λ s. entry_of (slot bytes (7 * j + s))) (range_with_len 0 n)) same ∙ sym (chunk-rows held j bytes)

  chunk-here : chunk k (rows_in (held + c) bytes) ≡ entries_in c (block_at k bytes)
  chunk-here =
      let mine : min 7 (held + c - 7 * k) ≡ c = ⊎_elim (λ none. omega arith) (λ full. omega arith) ways in
      chunk-rows (held + c) k bytes ∙ ap (λ n. map (λ s. entry_of (slot bytes (7 * k + s))) (range_with_len 0 n)) mine ∙
      map_same (λ s. entry_of (slot bytes (7 * k + s))) (λ s. entry_of (place_in s (block_at k bytes))) c (λ s lt. ap entry_of (slot-place k s bytes (omega arith)))

  one_more : Holds k (rows_in held bytes) bytes → block_at k bytes ≡ block k (entries_in c (block_at k bytes)) → Holds (k + 1) (rows_in (held + c) bytes) bytes
  one_more holds here j lt =
      ⊎_elim
      (λ same. subst (λ i. block_at i bytes ≡ block i (chunk i (rows_in (held + c) bytes))) (sym same) (here ∙ ap (block k) (sym chunk-here)))
      (λ ne. holds j (omega arith) ∙ ap (block j) (sym (chunk-before j (omega arith))))
      (cases_eq j k)

ways-from : (k held : ℕ) (p : List ℕ) → Passes k held p → (count_in p ≡ 0) ⊎ (held ≡ 7 * k)
ways-from k held p t =
    ⊎_elim (λ z. inl (eqb-true (count_in p) 0 z)) (λ z. inr (eqb-true held (7 * k) z)) (or_cases (eqb (count_in p) 0) (eqb held (7 * k)) t.order)

-- what is found so far is an image, and lies in the bytes
abbrev Sure : List ℕ → Found → Type 0
Sure bytes r = Holds r.blocks (rows_in r.entries bytes) bytes × (512 * r.blocks ≤ length bytes) × (r.entries ≤ 7 * r.blocks)

-- one block on, by whether it has a fault
sure-on : (o : Option Fault) (f k n held : ℕ) (bytes : List ℕ) → fault_in k held (block_at k bytes) ≡ o → k < n → 512 * n ≤ length bytes → Bytes bytes → Holds k (rows_in held bytes) bytes → held ≤ 7 * k →
    ((more : ℕ) → Holds (k + 1) (rows_in more bytes) bytes → more ≤ 7 * (k + 1) → Sure bytes (leads f (k + 1) more bytes)) → Sure bytes (onward o f k held bytes)
sure-on (Some x) f k n held bytes is lt room byte holds fits on = (holds, omega arith, fits)
sure-on None f k n held bytes is lt room byte holds fits on =
    let p : List ℕ = block_at k bytes in
    let long : length (block_at k bytes) ≡ 512 = length-take 512 (drop (512 * k) bytes) ∙ omega (arith, length-drop (512 * k) bytes) in
    let passed : Passes k held p = passes-from k held p is in
    let few : count_in (block_at k bytes) ≤ 7 = few-from k held p passed in
    let here : p ≡ block k (entries_in (count_in p) p) = block-is k held p long (bytes-part bytes (512 * k) 512 byte) passed in
    on (held + count_in p) (one_more k held (count_in p) bytes few fits (ways-from k held p passed) holds here) (omega arith)

leads-only : (f k n held : ℕ) (bytes : List ℕ) → k + f ≡ n → 512 * n ≤ length bytes → Bytes bytes → Holds k (rows_in held bytes) bytes → held ≤ 7 * k → Sure bytes (leads f k held bytes)
leads-only zero k n held bytes e room byte holds fits = (holds, omega arith, fits)
leads-only (suc f) k n held bytes e room byte holds fits =
    sure-on (fault_in k held (block_at k bytes)) f k n held bytes refl (omega arith) room byte holds fits
    (λ more h less. leads-only f (k + 1) n more bytes (omega arith) room byte h less)

sure : (bytes : List ℕ) → Bytes bytes → Sure bytes (found bytes)
sure bytes byte =
    let n : ℕ = blocks_in bytes in
    leads-only n 0 n 0 bytes (omega arith) (omega arith) byte (λ k lt. absurd (omega arith)) (omega arith)

pub finds-only : (bytes : List ℕ) → Bytes bytes → FindsOnly bytes (found bytes)
finds-only bytes byte = holds-image (found bytes).blocks (rows_in (found bytes).entries bytes) bytes (sure bytes byte).0 (sure bytes byte).1

-- each entry that is found lies in the bytes
pub found-within : (bytes : List ℕ) (i : ℕ) → Bytes bytes → i < (found bytes).entries → place i + 72 ≤ length bytes
found-within bytes i byte lt =
    let s = sure bytes byte in
    let room = s.1 in
    let few = s.2 in
    omega arith
