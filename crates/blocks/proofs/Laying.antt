-- Entries laid into the places of a block, and the block sealed. Assumes nothing.
use Rattle.std.proofs.Common.{◌≡◌, ℕ, suc, ◌+◌, ◌-◌, ◌*◌, ◌/◌, ◌%◌, ◌<◌, ◌≤◌, List, [], ◌∷◌, ◌++◌, length, get_or, take, drop, replicate, sym, refl, ap, ◌∙◌, subst, append_assoc, arith, length-append}
use borrow.Rule.Slice.PartMut.{put_mid}
use Rattle.std.specs.List.{flat_map}
use Rattle.std.proofs.lemmas.List.{length-replicate, append-nil, take_at, drop_at, drop-replicate, take-take, drop-take, flat_map_more, take-append-drop, drop_more, length-take-le, length_push}
use Rattle.ledger.specs.declared.row.Entry.{Entry}
use Rattle.blocks.specs.Bytes.{entry_bytes, four}
use Rattle.blocks.specs.Image.{weighed, body, headed, sealed, block}

pub length-entry : (e : Entry) → length (entry_bytes e) ≡ 72
unfolding entry_bytes
length-entry e = refl

pub length-joined : (es : List Entry) → length (flat_map entry_bytes es) ≡ 72 * length es
length-joined [] = refl
length-joined (e ∷ es) = omega (arith, length-append (entry_bytes e) (flat_map entry_bytes es), length-entry e, length-joined es)

pub joined-append : (xs ys : List Entry) → flat_map entry_bytes (xs ++ ys) ≡ flat_map entry_bytes xs ++ flat_map entry_bytes ys
joined-append [] ys = refl
joined-append (x ∷ xs) ys =
    ap (λ z. entry_bytes x ++ z) (joined-append xs ys) ∙ sym (append_assoc (entry_bytes x) (flat_map entry_bytes xs) (flat_map entry_bytes ys))

pub length-body : (es : List Entry) → length es ≤ 7 → length (body es) ≡ 504
unfolding body
length-body es h =
    omega (
      arith,
      length-append (flat_map entry_bytes es) (replicate (504 - 72 * length es) 0),
      length-joined es,
      length-replicate {A = ℕ} (504 - 72 * length es) 0,
    )

pub body-push :
    (es : List Entry) (e : Entry) (a k : ℕ) (xs ys : List ℕ)
    → xs ≡ body es → ys ≡ entry_bytes e → a ≡ 72 * length es → k ≡ 72 → length es < 7 → put_mid a k xs ys ≡ body (es ++ e ∷ [])
unfolding body
body-push es e a k xs ys xis yis ais kis lt =
    let J : List ℕ = flat_map entry_bytes es in
    let R : List ℕ = replicate (504 - 72 * length es) 0 in
    let t : take a (J ++ R) ≡ J = take_at J R a (length-joined es ∙ sym ais) in
    let d : drop a (J ++ R) ≡ R = drop_at J R a (length-joined es ∙ sym ais) in
    let z : drop 72 R ≡ replicate (504 - 72 * length es - 72) 0 = drop-replicate 72 (504 - 72 * length es) 0 in
    let n : 504 - 72 * length es - 72 ≡ 504 - 72 * length (es ++ e ∷ []) = omega (arith, length_push es e) in
    let j : J ++ entry_bytes e ≡ flat_map entry_bytes (es ++ e ∷ []) = flat_map_more entry_bytes [] es e in
    let s = append_assoc J (entry_bytes e) (replicate (504 - 72 * length es - 72) 0) in
    cc

-- a block_at of the front is a block_at of the whole
pub window : {X : Type 0} (xs : List X) (q w n : ℕ) → q + w ≤ n → take w (drop q (take n xs)) ≡ take w (drop q xs)
window xs q w n h =
    let m : q + (n - q) ≡ n = omega arith in
    let le : w ≤ n - q = omega arith in
    ap (λ z. take w (drop q (take z xs))) (sym m) ∙ ap (take w) (drop-take q (n - q) xs) ∙ take-take w (n - q) (drop q xs) le

pub body-slot : (es : List Entry) (s : ℕ) (d : Entry) → s < length es → take 72 (drop (72 * s) (body es)) ≡ entry_bytes (get_or es s d)
unfolding body
body-slot es s d h =
    let A : List ℕ = flat_map entry_bytes (take s es) in
    let B : List ℕ = flat_map entry_bytes (drop (s + 1) es) in
    let R : List ℕ = replicate (504 - 72 * length es) 0 in
    let f : List ℕ = entry_bytes (get_or es s d) in
    let whole : flat_map entry_bytes es ≡ A ++ (f ++ B) =
    ap (flat_map entry_bytes) (sym (take-append-drop s es) ∙ ap (λ z. take s es ++ z) (drop_more es s d h))
    ∙ joined-append (take s es) (get_or es s d ∷ drop (s + 1) es) in
    let long : length A ≡ 72 * s =
    length-joined (take s es) ∙ ap (λ z. 72 * z) (length-take-le s es (omega arith)) in
    let all : flat_map entry_bytes es ++ R ≡ A ++ (f ++ (B ++ R)) =
    ap (λ z. z ++ R) whole ∙ append_assoc A (f ++ B) R ∙ ap (λ z. A ++ z) (append_assoc f B R) in
    ap (λ z. take 72 (drop (72 * s) z)) all
    ∙ ap (take 72) (drop_at A (f ++ (B ++ R)) (72 * s) long)
    ∙ take_at f (B ++ R) 72 (length-entry (get_or es s d))

pub sealing :
    (n c k r : ℕ) (m h s : List ℕ)
    → drop 4 (drop n m) ≡ []
    → h ≡ c ∷ 0 ∷ k % 256 ∷ k / 256 % 256 ∷ []
    → r ≡ weighed 1 (take (suc (suc (suc (suc n)))) (h ++ m))
    → s ≡ four r []
    → put_mid (suc (suc (suc (suc n)))) 4 (h ++ m) s ≡ sealed c k (take n m)
unfolding headed sealed
sealing n c k r m h s none his ris sis =
    subst (λ h. r ≡ weighed 1 (take (suc (suc (suc (suc n)))) (h ++ m)) → put_mid (suc (suc (suc (suc n)))) 4 (h ++ m) s ≡ sealed c k (take n m))
    (sym his)
    (λ ris. ap (λ z. c ∷ 0 ∷ k % 256 ∷ k / 256 % 256 ∷ (take n m ++ z)) (ap (λ z. s ++ z) none ∙ append-nil s ∙ sis ∙ ap (λ z. four z []) ris))
    ris

-- the body after a write to it
pub mid-put : (xs ys : List ℕ) → 4 ≤ length xs → length ys ≡ 504 → take 504 (drop 4 (put_mid 4 504 xs ys)) ≡ ys
mid-put xs ys h long =
    ap (take 504) (drop_at (take 4 xs) (ys ++ drop 504 (drop 4 xs)) 4 (length-take-le 4 xs h)) ∙ take_at ys (drop 504 (drop 4 xs)) 504 long

-- a block, from its count and its body
pub block-from : (k c : ℕ) (es : List Entry) (ys : List ℕ) → c ≡ length es → ys ≡ body es → sealed c k ys ≡ block k es
unfolding block
block-from k c es ys cis yis = λ i. sealed (cis i) k (yis i)

pub body-nil : body [] ≡ replicate 504 0
unfolding body
body-nil = refl
