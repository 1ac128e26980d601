-- Blocks that hold rows are their image. Assumes nothing.
use Rattle.std.proofs.Common.{◌≡◌, ℕ, zero, suc, ◌+◌, ◌*◌, ◌/◌, ◌<◌, ◌≤◌, List, [], ◌++◌, length, take, drop, sym, refl, ap, ◌∙◌, arith}
use Rattle.std.proofs.lemmas.List.{length-append, take-append-drop, take-take, take_at, take_all, drop-take, drop_at, length-take, same_lists}
use Rattle.std.proofs.lemmas.List.FromFn.{get_or-map-range_with_len}
use Rattle.blocks.specs.Bytes.{entry_of}
use Rattle.ledger.specs.declared.row.Entry.{Entry}
use Rattle.ledger.specs.Lent.{Lent}
use Rattle.blocks.specs.Image.{block_at, block, chunk, image, filled, Holds, place, slot, rows_in}
use Rattle.blocks.proofs.Holding.{length-block, length-chunk, length-rows_in, holds-none}
use Rattle.blocks.proofs.Laying.{window}

take-sum : {X : Type 0} (a b : ℕ) (xs : List X) → a ≤ length xs → take (a + b) xs ≡ take a xs ++ take b (drop a xs)
take-sum a b xs h =
    sym (take-append-drop a (take (a + b) xs))
    ∙ ap (λ z. z ++ drop a (take (a + b) xs)) (take-take a (a + b) xs (omega arith)) ∙ ap (λ z. take a xs ++ z) (drop-take a b xs)

pub holds-image : (n : ℕ) (rows : List Entry) (bytes : List ℕ) → Holds n rows bytes → 512 * n ≤ length bytes → take (512 * n) bytes ≡ image n rows
holds-image zero rows bytes held room = refl
holds-image (suc k) rows bytes held room =
    let e : 512 * suc k ≡ 512 * k + 512 = omega arith in
    ap (λ z. take z bytes) e ∙ take-sum (512 * k) 512 bytes (omega arith)
    ∙ ap (λ z. z ++ block_at k bytes) (holds-image k rows bytes (λ j l. held j (omega arith)) (omega arith))
    ∙ ap (λ z. image k rows ++ z) (held k (omega arith))

-- the whole memory, from its blocks and what is past them
pub holds-filled : (n : ℕ) (rows : List Entry) (bytes lent : List ℕ) → Holds n rows bytes → 512 * n ≤ length bytes → drop (512 * n) bytes ≡ drop (512 * n) lent → bytes ≡ filled n rows lent
holds-filled n rows bytes lent holds room rest =
    sym (take-append-drop (512 * n) bytes) ∙ (λ i. holds-image n rows bytes holds room i ++ rest i)

pub length-image : (n : ℕ) (rows : List Entry) → length (image n rows) ≡ 512 * n
length-image zero rows = refl
length-image (suc k) rows =
    omega (arith, length-append (image k rows) (block k (chunk k rows)), length-image k rows, length-block k (chunk k rows) (length-chunk k rows))

-- an image over another leaves nothing of it
pub filled-over : (n : ℕ) (others rows : List Entry) (bytes lent : List ℕ) → bytes ≡ filled n others lent → filled n rows bytes ≡ filled n rows lent
filled-over n others rows bytes lent is =
    ap (λ b. image n rows ++ drop (512 * n) b) is ∙ ap (λ d. image n rows ++ d) (drop_at (image n others) (drop (512 * n) lent) (512 * n) (length-image n others))

-- past the image the memory is as it was, so that the same is lent
pub filled-lent : (owners : List ℕ) (n : ℕ) (rows : List Entry) (new lent : List ℕ) → new ≡ filled n rows lent →
    ◌≡◌ {A = Lent} (record { owners = owners; past = drop (512 * n) new }) (record { owners = owners; past = drop (512 * n) lent })
filled-lent owners n rows new lent is =
    ap (λ d. record { owners = owners; past = d }) (ap (drop (512 * n)) is ∙ drop_at (image n rows) (drop (512 * n) lent) (512 * n) (length-image n rows))

-- the first n blocks by themselves: the rows in them, and the whole memory once they are written
pub rows-front : (n m w : ℕ) (bytes : List ℕ) → w ≡ 512 * n → m ≤ 7 * n → rows_in m (take w bytes) ≡ rows_in m bytes
rows-front n m w bytes wis fits =
    same_lists (rows_in m (take w bytes)) (rows_in m bytes) (length-rows_in m (take w bytes) ∙ sym (length-rows_in m bytes))
    (λ i d lt.
    let inside : i < m = omega (arith, length-rows_in m (take w bytes)) in
    get_or-map-range_with_len (λ i. entry_of (slot (take w bytes) i)) 0 m i i d inside (omega arith)
    ∙ ap entry_of (window bytes (place i) 72 w (omega arith)) ∙ sym (get_or-map-range_with_len (λ i. entry_of (slot bytes i)) 0 m i i d inside (omega arith)))

pub holds-front :
    (n m w : ℕ) (bytes : List ℕ) → w ≡ 512 * n → w ≤ length bytes → m ≤ 7 * n → Holds n (rows_in m bytes) bytes
    → Holds (length (take w bytes) / 512) (rows_in m (take w bytes)) (take w bytes)
holds-front n m w bytes wis room fits held k lt =
    let l = length-take w bytes in
    window bytes (512 * k) 512 w (omega arith) ∙ held k (omega arith) ∙ ap (λ z. block k (chunk k z)) (sym (rows-front n m w bytes wis fits))

pub front-emptied :
    (n w : ℕ) (bytes new : List ℕ) → w ≡ 512 * n → w ≤ length bytes
    → ((k : ℕ) → 0 ≤ k → k < length (take w bytes) / 512 → block_at k new ≡ block k []) → Holds n [] new
front-emptied n w bytes new wis room cleared = holds-none n new (λ k l lt. cleared k l (omega (arith, length-take w bytes)))

pub holds-whole :
    (n w : ℕ) (rows : List Entry) (bytes new : List ℕ) → w ≡ 512 * n → w ≤ length bytes → length new ≡ length (take w bytes)
    → Holds n rows new → Holds n rows (new ++ drop w bytes)
holds-whole n w rows bytes new wis room long held k lt =
    sym (window (new ++ drop w bytes) (512 * k) 512 w (omega arith))
    ∙ ap (λ z. take 512 (drop (512 * k) z)) (take_at new (drop w bytes) w (omega (arith, length-take w bytes))) ∙ held k lt

pub filled-whole :
    (n w : ℕ) (rows : List Entry) (bytes new : List ℕ) → w ≡ 512 * n → w ≤ length bytes → length new ≡ length (take w bytes)
    → Holds n rows new → new ++ drop w bytes ≡ filled n rows bytes
filled-whole n w rows bytes new wis room long held =
    let l = length-take w bytes in
    let is : new ≡ image n rows = sym (take_all (512 * n) new (omega arith)) ∙ holds-image n rows new held (omega arith) in
    λ i. is i ++ drop (wis i) bytes
