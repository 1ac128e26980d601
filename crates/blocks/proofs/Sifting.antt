-- Rows taken out of blocks: those that stay are laid again from the front. Assumes nothing.
use Rattle.std.proofs.Common.{◌≡◌, ℕ, ◌+◌, ◌*◌, ◌/◌, ◌<◌, ◌≤◌, Bool, true, false, cond, List, [], ◌∷◌, ◌++◌, length, get_or, take, filter, sym, refl, ap, ◌∙◌, subst, ⊎_elim, arith}
use borrow.Rule.Slice.PartMut.{put_mid}
use Rattle.std.proofs.lemmas.List.{drop_all, length_push, length-take, length-drop, append-nil}
use Rattle.std.proofs.lemmas.List.Elements.{All-get_or, All-filter, filter_more}
use Rattle.std.proofs.lemmas.List.Sums.{length-filter, count_by-le-length}
use Rattle.std.proofs.lemmas.Bool.{cases_eq, cases_order}
use Rattle.blocks.specs.Bytes.{entry_of}
use Rattle.ledger.specs.declared.row.Entry.{Entry}
use Rattle.blocks.specs.Image.{body, sealed, block, chunk, block_at, Holds, written, slot, rows_in}
use Rattle.blocks.specs.Sifting.{Sifting}
use Rattle.blocks.proofs.Laying.{block-from}
use Rattle.blocks.proofs.Holding.{block_here, block-other, chunk-push-here, chunk-push-other, length-block, length-chunk, slot-in-block, faithful-rows, length-rows_in, decoded, Faithful}

pub chunk_end : (b : ℕ) (kept : List Entry) → length kept ≤ 7 * b → chunk b kept ≡ []
chunk_end b kept h = ap (take 7) (drop_all (7 * b) kept h)

pub length_last : (b at : ℕ) (kept : List Entry) → length kept ≡ 7 * b + at → at ≤ 7 → length (chunk b kept) ≡ at
length_last b at kept h s = simp (length-take, length-drop) (omega arith)

pub sifting-lay :
    (kept rows : List Entry) (n : ℕ) (bytes mid mid' : List ℕ) (b at : ℕ) (e : Entry) → Sifting kept rows n bytes mid b at
    → ((es : List Entry) → mid ≡ body es → length es ≡ at → mid' ≡ body (es ++ e ∷ []))
    → at + 1 < 7
    → Sifting (kept ++ e ∷ []) rows n bytes mid' b (at + 1)
sifting-lay kept rows n bytes mid mid' b at e s lay lt =
    let c = s.count in
    let bis : b ≡ length kept / 7 = omega (arith, s.small) in
    record {
      count = omega (arith, length_push kept e);
      small = lt;
      laid = lay (chunk b kept) s.laid (length_last b at kept c (omega arith)) ∙ ap body (sym (chunk-push-here kept e b bis));
      done = λ k l. s.done k l ∙ ap (block k) (sym (chunk-push-other kept e b k bis (omega arith)));
      left = s.left;
    }

pub sifting-full :
    (kept rows : List Entry) (n a w : ℕ) (bytes mid mid' new zeros : List ℕ) (b at : ℕ) (e : Entry) → Sifting kept rows n bytes mid b at
    → ((es : List Entry) → mid ≡ body es → length es ≡ at → mid' ≡ body (es ++ e ∷ []))
    → at + 1 ≡ 7
    → ((es : List Entry) → mid' ≡ body es → length es ≡ 7 → new ≡ block b es)
    → a ≡ 512 * b → w ≡ 512 → 512 * b ≤ length bytes → zeros ≡ body []
    → Sifting (kept ++ e ∷ []) rows n (put_mid a w bytes new) zeros (b + 1) 0
sifting-full kept rows n a w bytes mid mid' new zeros b at e s lay lt put ais wis room zis =
    let c = s.count in
    let bis : b ≡ length kept / 7 = omega (arith, s.small) in
    let push : chunk b kept ++ e ∷ [] ≡ chunk b (kept ++ e ∷ []) = sym (chunk-push-here kept e b bis) in
    let long = length_push kept e in
    let here : new ≡ block b (chunk b (kept ++ e ∷ [])) =
    put (chunk b (kept ++ e ∷ [])) (lay (chunk b kept) s.laid (length_last b at kept c (omega arith)) ∙ ap body push)
    (length_last b 7 (kept ++ e ∷ []) (omega arith) (omega arith)) in
    let size : length new ≡ 512 = ap length here ∙ length-block b (chunk b (kept ++ e ∷ [])) (length-chunk b (kept ++ e ∷ [])) in
    let other : (k : ℕ) → (k ≡ b → ⊥) → block_at k (put_mid a w bytes new) ≡ block_at k bytes =
    λ k ne. block-other k b a w bytes new ais wis size room ne in
    let upto : (k : ℕ) → k < b + 1 → block_at k (put_mid a w bytes new) ≡ block k (chunk k (kept ++ e ∷ [])) = λ k l.
    ⊎_elim
    (λ q. subst (λ z. block_at z (put_mid a w bytes new) ≡ block z (chunk z (kept ++ e ∷ []))) (sym q) (block_here b a w bytes new ais size room ∙ here))
    (λ ne. other k ne ∙ s.done k (omega arith) ∙ ap (block k) (sym (chunk-push-other kept e b k bis ne)))
    (cases_eq k b) in
    record {
      count = omega arith;
      small = omega arith;
      laid = zis ∙ ap body (sym (chunk_end (b + 1) (kept ++ e ∷ []) (omega arith)));
      done = upto;
      left = λ k l m. other k (omega arith) ∙ s.left k (omega arith) m;
    }

-- the block that was begun is written, and those after it are empty
pub sifting-end :
    (kept rows : List Entry) (n b at : ℕ) (old mid new places : List ℕ) → Sifting kept rows n old places b at
    → mid ≡ written b (sealed at b places) old → 512 * b + 512 ≤ length old
    → ((k : ℕ) → b + 1 ≤ k → k < n → block_at k new ≡ block k [])
    → ((k : ℕ) → k < b + 1 → block_at k new ≡ block_at k mid)
    → Holds n kept new
sifting-end kept rows n b at old mid new places s is room cleared before k lt =
    let es : List Entry = chunk b kept in
    let full : sealed at b places ≡ block b es = block-from b at es places (sym (length_last b at kept s.count (omega (arith, s.small)))) s.laid in
    let size : length (sealed at b places) ≡ 512 = ap length full ∙ length-block b es (length-chunk b kept) in
    ⊎_elim
    (λ e. subst (λ z. block_at z new ≡ block z (chunk z kept)) (sym e) (before b (omega arith) ∙ ap (block_at b) is ∙ block_here b (512 * b) 512 old (sealed at b places) refl size (omega arith) ∙ full))
    (⊎_elim
    (λ l. before k (omega arith) ∙ ap (block_at k) is ∙ block-other k b (512 * b) 512 old (sealed at b places) refl refl size (omega arith) (omega arith) ∙ s.done k l)
    (λ l. cleared k (omega arith) lt ∙ ap (block k) (sym (chunk_end k kept (omega (arith, s.count, s.small))))))
    (cases_order k b)

-- what is read at i is the old row i
pub sift-read :
    (n m i b at : ℕ) (kept : List Entry) (old bytes mid : List ℕ) (e : Entry)
    → Holds n (rows_in m old) old → m ≤ 7 * n → Sifting kept (rows_in m old) n bytes mid b at → 7 * b + at ≤ i → i < m
    → e ≡ entry_of (slot bytes i)
    → e ≡ get_or (rows_in m old) i e
sift-read n m i b at kept old bytes mid e held fits s far lt is =
    let l = length-rows_in m old in
    is ∙ ap entry_of (slot-in-block i (rows_in m old) bytes e (s.left (i / 7) (omega arith) (omega arith)) (omega arith))
    ∙ All-get_or Faithful (rows_in m old) i e (omega arith) (faithful-rows n m old held fits)

pub kept-skip :
    (p : Entry → Bool) (rows : List Entry) (i : ℕ) (e : Entry) → i < length rows → e ≡ get_or rows i e → p e ≡ false
    → filter p (take i rows) ≡ filter p (take (i + 1) rows)
kept-skip p rows i e lt is out =
    sym (filter_more p rows i e lt ∙ ap (λ z. filter p (take i rows) ++ cond (p z) (z ∷ []) []) (sym is)
    ∙ ap (λ z. filter p (take i rows) ++ cond z (e ∷ []) []) out ∙ append-nil (filter p (take i rows)))

pub kept_push :
    (p : Entry → Bool) (rows : List Entry) (i : ℕ) (e : Entry) → i < length rows → e ≡ get_or rows i e → p e ≡ true
    → filter p (take i rows) ++ e ∷ [] ≡ filter p (take (i + 1) rows)
kept_push p rows i e lt is stays =
    sym (filter_more p rows i e lt ∙ ap (λ z. filter p (take i rows) ++ cond (p z) (z ∷ []) []) (sym is)
    ∙ ap (λ z. filter p (take i rows) ++ cond z (e ∷ []) []) stays)

pub length-kept-le : (p : Entry → Bool) (rows : List Entry) → length (filter p rows) ≤ length rows
length-kept-le p rows = omega (arith, length-filter p rows, count_by-le-length p rows)

pub sifted :
    (p : Entry → Bool) (n m left : ℕ) (old bytes : List ℕ) → Holds n (rows_in m old) old → m ≤ 7 * n
    → Holds n (filter p (rows_in m old)) bytes → left ≡ length (filter p (rows_in m old))
    → Holds n (rows_in left bytes) bytes × (rows_in left bytes ≡ filter p (rows_in m old)) × (left ≤ m)
sifted p n m left old bytes held fits new is =
    let l = length-rows_in m old in
    let k = length-kept-le p (rows_in m old) in
    let same : rows_in left bytes ≡ filter p (rows_in m old) =
    decoded n left (filter p (rows_in m old)) bytes new (sym is) (omega arith)
    (All-filter p Faithful (rows_in m old) (faithful-rows n m old held fits)) in
    (subst (λ z. Holds n z bytes) (sym same) new, same, omega arith)
