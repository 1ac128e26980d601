-- Blocks that hold rows: what a write to one block leaves, what is read back, one row more. Assumes nothing.
use Rattle.std.proofs.Common.{◌≡◌, ℕ, ◌+◌, ◌*◌, ◌/◌, ◌%◌, ◌<◌, ◌≤◌, List, [], ◌∷◌, ◌++◌, length, get_or, take, drop, Some, sym, refl, ap, ◌∙◌, subst, ⊎_elim, arith, length-append}
use borrow.Rule.Slice.PartMut.{put_mid}
use Rattle.std.specs.List.{All, slice_get}
use Rattle.std.proofs.lemmas.Option.{slice_get-get_or}
use Rattle.std.proofs.lemmas.List.{take_at, drop_at, drop-drop, take_all, drop_all, length-take-le, length_push, length-take, length-drop, length-append, drop-append-le, take-append-le, get_or-take, get_or-drop, same_lists}
use Rattle.std.proofs.lemmas.Slice.{take-put_mid_below, drop-put_mid}
use Rattle.std.proofs.lemmas.Bool.{cases_order}
use Rattle.std.proofs.lemmas.List.Elements.{All-from_get_or, All-get_or, All-push}
use Rattle.std.proofs.lemmas.List.FromFn.{get_or-map-range_with_len, length-map-range_with_len}
use Rattle.ledger.specs.declared.row.Entry.{Entry}
use Rattle.blocks.specs.Bytes.{entry_bytes, entry_of, four}
use Rattle.blocks.specs.Image.{weighed, body, headed, sealed, block, chunk, block_at, Holds, written, slot, rows_in}
use Rattle.blocks.proofs.Laying.{window, body-slot, length-body}

-- what a write to one block leaves
pub block_here :
    (b a w : ℕ) (bytes new : List ℕ) → a ≡ 512 * b → length new ≡ 512 → 512 * b ≤ length bytes → block_at b (put_mid a w bytes new) ≡ new
block_here b a w bytes new ais long fits =
    let l : length (take a bytes) ≡ 512 * b = length-take-le a bytes (omega arith) ∙ ais in
    ap (take 512) (drop_at (take a bytes) (new ++ drop w (drop a bytes)) (512 * b) l) ∙ take_at new (drop w (drop a bytes)) 512 long

pub block-other :
    (k b a w : ℕ) (bytes new : List ℕ) → a ≡ 512 * b → w ≡ 512 → length new ≡ 512 → 512 * b ≤ length bytes
    → (k ≡ b → ⊥) → block_at k (put_mid a w bytes new) ≡ block_at k bytes
block-other k b a w bytes new ais wis long fits ne =
    let P : Type 0 = block_at k (put_mid a w bytes new) ≡ block_at k bytes in
    let below : k < b → P = λ lt.
    sym (window (put_mid a w bytes new) (512 * k) 512 a (omega arith))
    ∙ ap (λ z. take 512 (drop (512 * k) z)) (take-put_mid_below a w bytes new a (omega arith) (omega arith))
    ∙ window bytes (512 * k) 512 a (omega arith) in
    let above : b < k → P = λ lt.
    ap (take 512) (drop-put_mid a w bytes new (512 * k) (omega arith) (omega arith) (omega arith)) in
    ⊎_elim (λ e. absurd (ne e)) (⊎_elim below above) (cases_order k b)

pub holds-put :
    (n b a w : ℕ) (rows : List Entry) (bytes new : List ℕ) → a ≡ 512 * b → w ≡ 512 → length new ≡ 512 → 512 * b ≤ length bytes
    → ((k : ℕ) → k < n → (k ≡ b → ⊥) → block_at k bytes ≡ block k (chunk k rows))
    → new ≡ block b (chunk b rows)
    → Holds n rows (put_mid a w bytes new)
holds-put n b a w rows bytes new ais wis long fits others here k lt =
    let P : Type 0 = block_at k (put_mid a w bytes new) ≡ block k (chunk k rows) in
    let others : (k ≡ b → ⊥) → P = λ ne. block-other k b a w bytes new ais wis long fits ne ∙ others k lt ne in
    let same : k ≡ b → P = λ e.
    subst (λ z. block_at z (put_mid a w bytes new) ≡ block z (chunk z rows)) (sym e) (block_here b a w bytes new ais long fits ∙ here) in
    ⊎_elim same (⊎_elim (λ l. others (omega arith)) (λ l. others (omega arith))) (cases_order k b)

pub mid-block : (k : ℕ) (es : List Entry) → length es ≤ 7 → take 504 (drop 4 (block k es)) ≡ body es
unfolding block sealed headed
mid-block k es h = take_at (body es) (four (weighed 1 (headed (length es) k (body es))) []) 504 (length-body es h)

pub length-block : (k : ℕ) (es : List Entry) → length es ≤ 7 → length (block k es) ≡ 512
unfolding block sealed headed
length-block k es h =
    omega (arith, length-body es h, length-append (body es) (four (weighed 1 (headed (length es) k (body es))) []))

pub length-chunk : (k : ℕ) (rows : List Entry) → length (chunk k rows) ≤ 7
length-chunk k rows = simp length-take (omega arith)

pub slot-in-block :
    (i : ℕ) (rows : List Entry) (bytes : List ℕ) (d : Entry) → block_at (i / 7) bytes ≡ block (i / 7) (chunk (i / 7) rows) → i < length rows
    → slot bytes i ≡ entry_bytes (get_or rows i d)
slot-in-block i rows bytes d held lt =
    let k : ℕ = i / 7 in
    let s : ℕ = i % 7 in
    let es : List Entry = chunk (i / 7) rows in
    let split : 7 * (i / 7) + i % 7 ≡ i = omega arith in
    let inside : i % 7 < length (chunk (i / 7) rows) = simp (length-take, length-drop) (omega arith) in
    let from : slot bytes i ≡ take 72 (drop (4 + 72 * (i % 7)) (block_at (i / 7) bytes)) =
    ap (take 72) (sym (drop-drop (4 + 72 * (i % 7)) (512 * (i / 7)) bytes))
    ∙ sym (window (drop (512 * (i / 7)) bytes) (4 + 72 * (i % 7)) 72 512 (omega arith)) in
    let inner : take 72 (drop (4 + 72 * (i % 7)) (block (i / 7) es)) ≡ take 72 (drop (72 * (i % 7)) (body es)) =
    ap (take 72) (sym (drop-drop (72 * (i % 7)) 4 (block (i / 7) es)))
    ∙ sym (window (drop 4 (block (i / 7) es)) (72 * (i % 7)) 72 504 (omega arith))
    ∙ ap (λ z. take 72 (drop (72 * (i % 7)) z)) (mid-block (i / 7) es (length-chunk (i / 7) rows)) in
    let read : get_or es (i % 7) d ≡ get_or rows i d =
    get_or-take 7 (drop (7 * (i / 7)) rows) (i % 7) d (omega arith)
    ∙ get_or-drop (7 * (i / 7)) rows (i % 7) d ∙ ap (λ z. get_or rows z d) split in
    from ∙ ap (λ z. take 72 (drop (4 + 72 * (i % 7)) z)) held ∙ inner
    ∙ body-slot es (i % 7) d inside ∙ ap entry_bytes read

pub holds-slot :
    (n i : ℕ) (rows : List Entry) (bytes : List ℕ) (d : Entry) → Holds n rows bytes → i < length rows → length rows ≤ 7 * n
    → slot bytes i ≡ entry_bytes (get_or rows i d)
holds-slot n i rows bytes d held lt fits = slot-in-block i rows bytes d (held (i / 7) (omega arith)) lt

abbrev pub Faithful : Entry → Type 0
Faithful e = entry_of (entry_bytes e) ≡ e

pub faithful-rows : (n m : ℕ) (bytes : List ℕ) → Holds n (rows_in m bytes) bytes → m ≤ 7 * n → All Faithful (rows_in m bytes)
faithful-rows n m bytes held fits =
    let long : length (rows_in m bytes) ≡ m = length-map-range_with_len (λ i. entry_of (slot bytes i)) 0 m in
    All-from_get_or Faithful (rows_in m bytes) (entry_of []) (λ i lt.
    let read : get_or (rows_in m bytes) i (entry_of []) ≡ entry_of (slot bytes i) =
    get_or-map-range_with_len (λ i. entry_of (slot bytes i)) 0 m i i (entry_of []) (omega arith) (omega arith) in
    ap entry_of (sym (holds-slot n i (rows_in m bytes) bytes (entry_of []) held lt (omega arith))) ∙ sym read)

pub decoded : (n m : ℕ) (new : List Entry) (bytes : List ℕ) → Holds n new bytes → length new ≡ m → m ≤ 7 * n → All Faithful new → rows_in m bytes ≡ new
decoded n m new bytes held long fits all =
    let len : length (rows_in m bytes) ≡ m = length-map-range_with_len (λ i. entry_of (slot bytes i)) 0 m in
    same_lists (rows_in m bytes) new (omega arith) (λ i d lt.
    get_or-map-range_with_len (λ i. entry_of (slot bytes i)) 0 m i i d (omega arith) (omega arith)
    ∙ ap entry_of (holds-slot n i new bytes d held (omega arith) (omega arith)) ∙ All-get_or Faithful new i d (omega arith) all)

pub chunk-push-here : (rows : List Entry) (e : Entry) (b : ℕ) → b ≡ length rows / 7 → chunk b (rows ++ e ∷ []) ≡ chunk b rows ++ e ∷ []
chunk-push-here rows e b bis =
    let X : List Entry = drop (7 * b) rows in
    let l : length (drop (7 * b) rows) ≤ 6 = simp length-drop (omega arith) in
    ap (take 7) (drop-append-le (7 * b) rows (e ∷ []) (omega arith))
    ∙ take_all 7 (X ++ e ∷ []) (omega (arith, length_push X e)) ∙ ap (λ z. z ++ e ∷ []) (sym (take_all 7 X (omega arith)))

pub chunk-push-other : (rows : List Entry) (e : Entry) (b k : ℕ) → b ≡ length rows / 7 → (k ≡ b → ⊥) → chunk k (rows ++ e ∷ []) ≡ chunk k rows
chunk-push-other rows e b k bis ne =
    let P : Type 0 = chunk k (rows ++ e ∷ []) ≡ chunk k rows in
    let below : k < b → P = λ lt.
    ap (take 7) (drop-append-le (7 * k) rows (e ∷ []) (omega arith))
    ∙ take-append-le 7 (drop (7 * k) rows) (e ∷ []) (simp length-drop (omega arith)) in
    let above : b < k → P = λ lt.
    ap (take 7) (drop_all (7 * k) (rows ++ e ∷ []) (omega (arith, length_push rows e)) ∙ sym (drop_all (7 * k) rows (omega arith))) in
    ⊎_elim (λ q. absurd (ne q)) (⊎_elim below above) (cases_order k b)

pub length-rows_in : (m : ℕ) (bytes : List ℕ) → length (rows_in m bytes) ≡ m
length-rows_in m bytes = length-map-range_with_len (λ i. entry_of (slot bytes i)) 0 m

pub nth-rows_in : (m i : ℕ) (bytes : List ℕ) (e : Entry) → i < m → e ≡ entry_of (slot bytes i) → slice_get (rows_in m bytes) i ≡ Some e
nth-rows_in m i bytes e lt is =
    let l = length-rows_in m bytes in
    slice_get-get_or (rows_in m bytes) i e (omega arith)
    ∙ ap Some (get_or-map-range_with_len (λ i. entry_of (slot bytes i)) 0 m i i e (omega arith) (omega arith) ∙ sym is)

pub chunk-nil : (k : ℕ) → chunk k [] ≡ []
chunk-nil k = ap (take 7) (drop_all (7 * k) [] (omega arith))

-- empty blocks hold no rows
pub holds-none : (n : ℕ) (bytes : List ℕ) → ((k : ℕ) → 0 ≤ k → k < n → block_at k bytes ≡ block k []) → Holds n [] bytes
holds-none n bytes h k lt = h k (omega arith) lt ∙ ap (block k) (sym (chunk-nil k))

-- one row more, laid into its block
pub grown :
    (n m b : ℕ) (bytes after : List ℕ) (e : Entry)
    → Holds n (rows_in m bytes) bytes → m < 7 * n → 512 * n ≤ length bytes → b ≡ m / 7 → Faithful e
    → ((es : List Entry) → take 504 (drop 4 (block_at b bytes)) ≡ body es → length es ≡ m % 7 → after ≡ written b (block b (es ++ e ∷ [])) bytes)
    → Holds n (rows_in (m + 1) after) after × (rows_in (m + 1) after ≡ rows_in m bytes ++ e ∷ [])
grown n m b bytes after e held lt room bis true added =
    let rows : List Entry = rows_in m bytes in
    let long : length (rows_in m bytes) ≡ m = length-rows_in m bytes in
    let bl : b ≡ length (rows_in m bytes) / 7 = omega arith in
    let few : length (chunk b (rows_in m bytes)) ≡ m % 7 = simp (length-take, length-drop) (omega arith) in
    let mid : take 504 (drop 4 (block_at b bytes)) ≡ body (chunk b rows) =
    ap (λ z. take 504 (drop 4 z)) (held b (omega arith)) ∙ mid-block b (chunk b rows) (length-chunk b rows) in
    let new : List ℕ = block b (chunk b rows ++ e ∷ []) in
    let is : after ≡ put_mid (512 * b) 512 bytes new = added (chunk b rows) mid few in
    let here : new ≡ block b (chunk b (rows ++ e ∷ [])) = ap (block b) (sym (chunk-push-here rows e b bl)) in
    let size : length new ≡ 512 = ap length here ∙ length-block b (chunk b (rows ++ e ∷ [])) (length-chunk b (rows ++ e ∷ [])) in
    let whole : Holds n (rows ++ e ∷ []) after =
    subst (Holds n (rows ++ e ∷ [])) (sym is) (holds-put n b (512 * b) 512 (rows ++ e ∷ []) bytes new refl refl size (omega arith)
    (λ k l ne. held k l ∙ ap (block k) (sym (chunk-push-other rows e b k bl ne))) here) in
    let same : rows_in (m + 1) after ≡ rows ++ e ∷ [] =
    decoded n (m + 1) (rows ++ e ∷ []) after whole (length_push rows e ∙ ap (λ z. z + 1) long) (omega arith)
    (All-push Faithful rows e (faithful-rows n m bytes held (omega arith)) true) in
    (subst (λ z. Holds n z after) (sym same) whole, same)
