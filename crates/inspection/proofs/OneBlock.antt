-- A block of entries passes every test, and a block that passes them is one of entries. Assumes nothing.
use Rattle.std.proofs.Common.{◌≡◌, ℕ, zero, suc, ◌+◌, ◌-◌, ◌*◌, ◌/◌, ◌%◌, ◌^◌, ◌<◌, ◌≤◌, Bool, true, false, cond, eqb, ◌⊎◌, List, [], ◌∷◌, ◌++◌, map, length, get_or, take, drop, replicate, Some, None, Option, sym, refl, ap, ◌∙◌, ⊎_elim, append_assoc, mod-eq_of_lt, add-one, arith, length-drop, length-take}
use Rattle.std.specs.List.{range_with_len, flat_map, list_all, All, AllByRecursion}
use Rattle.std.proofs.lemmas.Nat.{mul-le}
use Rattle.std.proofs.lemmas.List.FromFn.{map-range_with_len_more, get_or-map-range_with_len, length-map-range_with_len}
use Rattle.std.proofs.lemmas.List.Sums.{AllPass-from_list_all, list_all-from_AllPass}
use Rattle.std.proofs.lemmas.List.Elements.{All-append, All-head, All-tail, All-from_recursion, recursion_from_All}
use Rattle.std.proofs.lemmas.List.{length-replicate, take_at, drop_at, take-take, drop-take, drop-drop, take-append-drop, get_or-append_right, get_or-drop, append-nil}
use Rattle.std.proofs.lemmas.Bool.{le-leb, leb-true, eq-eqb, eqb-true, or_left, or_right}
use Rattle.ledger.specs.declared.row.Entry.{Entry}
use Rattle.ledger.specs.Rows.{IsNarrow}
use Rattle.blocks.specs.Bytes.{four, eight, four_at, entry_bytes, entry_of}
use Rattle.blocks.specs.Image.{weighed, body, headed, sealed, block}
use Rattle.blocks.proofs.Entries.{four-back}
use Rattle.blocks.proofs.Holding.{mid-block}
use Rattle.blocks.proofs.Laying.{window, body-slot, length-body, length-joined, joined-append}
use Rattle.inspection.specs.declared.faults.Fault.{Fault}
use Rattle.inspection.specs.Sound.{two_at, count_in, number_in, checksum_in, all_zero, unused_in, place_in, clean, all_clean, good_count, good_number, good_checksum, good_unused, good_fillers, good_order, fault_in}
use Rattle.inspection.proofs.Spelling.{Bytes, bytes-part, all_zero-replicate, all_zero-means, four-in, entry-forth}

-- what the tests come to

-- a test of the first values of a function

list_all-from_each : {X : Type 0} (t : X → Bool) (f : ℕ → X) (c : ℕ) → ((s : ℕ) → s < c → t (f s) ≡ true) → list_all t (map f (range_with_len 0 c)) ≡ true
list_all-from_each t f c h =
    let long = length-map-range_with_len f 0 c in
    list_all-from_AllPass t (map f (range_with_len 0 c))
    (λ k d lt. ap t (get_or-map-range_with_len f 0 c k k d (omega arith) (omega arith)) ∙ h k (omega arith))

each-from_list_all : {X : Type 0} (t : X → Bool) (f : ℕ → X) (c : ℕ) → list_all t (map f (range_with_len 0 c)) ≡ true → (s : ℕ) → s < c → t (f s) ≡ true
each-from_list_all t f c e s lt =
    let long = length-map-range_with_len f 0 c in
    sym (ap t (get_or-map-range_with_len f 0 c s s (f 0) lt (omega arith))) ∙ AllPass-from_list_all t (map f (range_with_len 0 c)) e s (f 0) (omega arith)

pub record Passes (k held : ℕ) (p : List ℕ) : Type 0 where
  pub count : good_count p ≡ true
  pub number : good_number k p ≡ true
  pub check : good_checksum p ≡ true
  pub unused : good_unused p ≡ true
  pub fillers : good_fillers p ≡ true
  pub order : good_order k held p ≡ true

pub no-fault-from : (k held : ℕ) (p : List ℕ) → Passes k held p → fault_in k held p ≡ None
no-fault-from k held p t =
    let a = t.count in
    let b = t.number in
    let c = t.check in
    let d = t.unused in
    let e = t.fillers in
    let f = t.order in
    simp (a, b, c, d, e, f)

-- entries that fit pass

abbrev Byte : ℕ → Type 0
Byte b = b < 256

small : (n : ℕ) → n % 256 < 256
small n = omega arith

bytes-four : (n : ℕ) (rest : List ℕ) → AllByRecursion Byte rest → AllByRecursion Byte (four n rest)
bytes-four n rest h = (small n, (small (n / 256), (small (n / 65536), (small (n / 16777216), h))))

bytes-eight : (n : ℕ) (rest : List ℕ) → AllByRecursion Byte rest → AllByRecursion Byte (eight n rest)
bytes-eight n rest h =
    (small n, (small (n / 256), (small (n / 65536), (small (n / 16777216), (small (n / 4294967296), (small (n / 1099511627776), (small (n / 281474976710656), (small (n / 72057594037927936), h))))))))

bytes-zeros : (n : ℕ) → AllByRecursion Byte (replicate n 0)
bytes-zeros zero = tt
bytes-zeros (suc n) = (omega arith, bytes-zeros n)

bytes-entry : (e : Entry) → IsNarrow e → AllByRecursion Byte (entry_bytes e)
unfolding entry_bytes
bytes-entry e h =
    let l0 : List ℕ = replicate 19 0 in
    let h0 : AllByRecursion Byte l0 = bytes-zeros 19 in
    let l1 : List ℕ = eight e.type_amount l0 in
    let h1 : AllByRecursion Byte l1 = bytes-eight e.type_amount l0 h0 in
    let l2 : List ℕ = four e.type_quantity l1 in
    let h2 : AllByRecursion Byte l2 = bytes-four e.type_quantity l1 h1 in
    let l3 : List ℕ = eight e.running_amount l2 in
    let h3 : AllByRecursion Byte l3 = bytes-eight e.running_amount l2 h2 in
    let l4 : List ℕ = four e.running_quantity l3 in
    let h4 : AllByRecursion Byte l4 = bytes-four e.running_quantity l3 h3 in
    let l5 : List ℕ = four e.trade_number l4 in
    let h5 : AllByRecursion Byte l5 = bytes-four e.trade_number l4 h4 in
    let l6 : List ℕ = four e.price l5 in
    let h6 : AllByRecursion Byte l6 = bytes-four e.price l5 h5 in
    let l7 : List ℕ = four e.quantity l6 in
    let h7 : AllByRecursion Byte l7 = bytes-four e.quantity l6 h6 in
    let l8 : List ℕ = four e.new_account l7 in
    let h8 : AllByRecursion Byte l8 = bytes-four e.new_account l7 h7 in
    let l9 : List ℕ = four e.new_broker l8 in
    let h9 : AllByRecursion Byte l9 = bytes-four e.new_broker l8 h8 in
    let l10 : List ℕ = four e.order.rest l9 in
    let h10 : AllByRecursion Byte l10 = bytes-four e.order.rest l9 h9 in
    (h.group, (omega arith, (h.kind, (h.order-type, (h.order-first, h10)))))

bytes-append : (xs ys : List ℕ) → AllByRecursion Byte xs → AllByRecursion Byte ys → AllByRecursion Byte (xs ++ ys)
bytes-append xs ys h k =
    recursion_from_All Byte (xs ++ ys) (All-append Byte xs ys (All-from_recursion Byte xs h) (All-from_recursion Byte ys k))

bytes-joined : (es : List Entry) → All IsNarrow es → AllByRecursion Byte (flat_map entry_bytes es)
bytes-joined [] h = tt
bytes-joined (e ∷ es) h = bytes-append (entry_bytes e) (flat_map entry_bytes es) (bytes-entry e (All-head IsNarrow e es h)) (bytes-joined es (All-tail IsNarrow e es h))

bytes-body : (es : List Entry) → All IsNarrow es → AllByRecursion Byte (body es)
unfolding body
bytes-body es h = bytes-append (flat_map entry_bytes es) (replicate (504 - 72 * length es) 0) (bytes-joined es h) (bytes-zeros (504 - 72 * length es))

-- the checksum of a block fits its four bytes
weighed-le : (bs : List ℕ) (i : ℕ) → AllByRecursion Byte bs → i + length bs ≤ 509 → weighed i bs ≤ 129795 * length bs
weighed-le [] i h room = omega arith
weighed-le (b ∷ bs) i h room =
    let here : b * i ≤ 129795 = mul-le b i 255 509 (omega (arith, h.0)) (omega arith) in
    omega (arith, weighed-le bs (i + 1) h.1 (omega arith))

module _ (k : ℕ) (es : List Entry) (low : k < 65536) (few : length es ≤ 7) (narrow : All IsNarrow es) where
  abbrev head : List ℕ
  head = headed (length es) k (body es)

  long-head : length head ≡ 508
  unfolding headed
  long-head = omega (arith, length-body es few)

  bytes-head : AllByRecursion Byte head
  unfolding headed
  bytes-head = (omega arith, (omega arith, (small k, (small (k / 256), bytes-body es narrow))))

  parts : block k es ≡ head ++ four (weighed 1 head) []
  unfolding block sealed
  parts = refl

  count-block : count_in (block k es) ≡ length es
  unfolding count_in block sealed headed
  count-block = omega arith

  number-block : number_in (block k es) ≡ k
  unfolding number_in block sealed headed
  number-block =
      let t : k / 256 < 256 = omega arith in
      omega (arith, mod-eq_of_lt t)

  at-end : (i : ℕ) → 508 ≤ i → get_or (block k es) i 0 ≡ get_or (four (weighed 1 head) []) (i - 508) 0
  at-end i h = ap (λ l. get_or l i 0) parts ∙ get_or-append_right head (four (weighed 1 head) []) 508 i 0 long-head h

  checksum-block : checksum_in (block k es) ≡ weighed 1 (take 508 (block k es))
  unfolding checksum_in
  checksum-block =
      let w : weighed 1 head < 2 ^ 32 = omega (arith, weighed-le head 1 bytes-head (omega (arith, long-head)), long-head) in
      let front : take 508 (block k es) ≡ head = ap (take 508) parts ∙ take_at head (four (weighed 1 head) []) 508 long-head in
      (λ i. at-end 508 (omega arith) i + at-end 509 (omega arith) i * 256 + at-end 510 (omega arith) i * 65536 + at-end 511 (omega arith) i * 16777216) ∙
      four-back (weighed 1 head) w ∙ ap (weighed 1) (sym front)

  -- unused places
  behind : drop (4 + 72 * length es) (block k es) ≡ replicate (504 - 72 * length es) 0 ++ four (weighed 1 head) []
  unfolding block sealed headed body
  behind =
      let rest : List ℕ = replicate (504 - 72 * length es) 0 in
      let end : List ℕ = four (weighed 1 head) [] in
      sym (drop-drop (72 * length es) 4 (block k es)) ∙
      ap (drop (72 * length es)) (append_assoc (flat_map entry_bytes es) rest end) ∙
      drop_at (flat_map entry_bytes es) (rest ++ end) (72 * length es) (length-joined es)

  unused-block : unused_in (block k es) ≡ replicate (504 - 72 * length es) 0
  unused-block =
      let width : 508 - (4 + 72 * length es) ≡ 504 - 72 * length es = omega arith in
      ap (λ c. take (508 - (4 + 72 * c)) (drop (4 + 72 * c) (block k es))) count-block ∙
      (λ i. take (width i) (behind i)) ∙
      take_at (replicate (504 - 72 * length es) 0) (four (weighed 1 head) []) (504 - 72 * length es) (length-replicate (504 - 72 * length es) 0)

  -- fillers
  place-block : (s : ℕ) (d : Entry) → s < length es → place_in s (block k es) ≡ entry_bytes (get_or es s d)
  place-block s d lt =
      ap (take 72) (sym (drop-drop (72 * s) 4 (block k es))) ∙
      sym (window (drop 4 (block k es)) (72 * s) 72 504 (omega arith)) ∙
      ap (λ z. take 72 (drop (72 * s) z)) (mid-block k es few) ∙ body-slot es s d lt

  clean-entry : (e : Entry) → clean (entry_bytes e) ≡ true
  unfolding entry_bytes
  clean-entry e = all_zero-replicate 19

  clean-all : all_clean (length es) (block k es) ≡ true
  clean-all =
      let d : Entry = entry_of [] in
      list_all-from_each clean (λ s. place_in s (block k es)) (length es) (λ s lt. ap clean (place-block s d lt) ∙ clean-entry (get_or es s d))

  pub block-passes : (held : ℕ) → (length es ≡ 0) ⊎ (held ≡ 7 * k) → Passes k held (block k es)
  block-passes held ways = record {
    count = le-leb (count_in (block k es)) 7 (omega (arith, count-block));
    number = eq-eqb (number_in (block k es)) k number-block;
    check = eq-eqb (checksum_in (block k es)) (weighed 1 (take 508 (block k es))) checksum-block;
    unused = ap all_zero unused-block ∙ all_zero-replicate (504 - 72 * length es);
    fillers = ap (λ c. all_clean c (block k es)) count-block ∙ clean-all;
    order =
        ⊎_elim
        (λ none. or_left (eqb (count_in (block k es)) 0) (eqb held (7 * k)) (eq-eqb (count_in (block k es)) 0 (count-block ∙ none)))
        (λ full. or_right (eqb (count_in (block k es)) 0) (eqb held (7 * k)) (eq-eqb held (7 * k) full))
        ways;
  }

  pub count-is : count_in (block k es) ≡ length es
  count-is = count-block

-- a block that passes is one of entries

abbrev chain : (u v w x y z : Fault) → Bool → Bool → Bool → Bool → Bool → Bool → Option Fault
chain u v w x y z a b c d e f = cond a (cond b (cond c (cond d (cond e (cond f None (Some z)) (Some y)) (Some x)) (Some w)) (Some v)) (Some u)

pub passes-from : (k held : ℕ) (p : List ℕ) → fault_in k held p ≡ None → Passes k held p
passes-from k held p e =
    go _ _ _ _ _ _ (good_count p) (good_number k p) (good_checksum p) (good_unused p) (good_fillers p) (good_order k held p) refl refl refl refl refl refl e
  where
    wrong : (x : Fault) → Some x ≡ None → Passes k held p
    wrong x e = let z : ◌≡◌ {A = ℕ} 0 1 = cc in absurd (omega arith)

    go : (u v w x y z : Fault) (a b c d e f : Bool) → good_count p ≡ a → good_number k p ≡ b → good_checksum p ≡ c → good_unused p ≡ d → good_fillers p ≡ e → good_order k held p ≡ f → chain u v w x y z a b c d e f ≡ None → Passes k held p
    go u v w x y z true true true true true true pa pb pc pd pe pf q = record { count = pa; number = pb; check = pc; unused = pd; fillers = pe; order = pf }
    go u v w x y z false b c d e f pa pb pc pd pe pf q = wrong u q
    go u v w x y z true false c d e f pa pb pc pd pe pf q = wrong v q
    go u v w x y z true true false d e f pa pb pc pd pe pf q = wrong w q
    go u v w x y z true true true false e f pa pb pc pd pe pf q = wrong x q
    go u v w x y z true true true true false f pa pb pc pd pe pf q = wrong y q
    go u v w x y z true true true true true false pa pb pc pd pe pf q = wrong z q

pub few-from : (k held : ℕ) (p : List ℕ) → Passes k held p → count_in p ≤ 7
few-from k held p t = leb-true (count_in p) 7 t.count

-- the entries of a block's first c places
abbrev pub entries_in : ℕ → List ℕ → List Entry
entries_in c p = map (λ s. entry_of (place_in s p)) (range_with_len 0 c)

pub length-entries_in : (c : ℕ) (p : List ℕ) → length (entries_in c p) ≡ c
length-entries_in c p = length-map-range_with_len (λ s. entry_of (place_in s p)) 0 c

first-four : (p : List ℕ) → 4 ≤ length p → p ≡ get_or p 0 0 ∷ get_or p 1 0 ∷ get_or p 2 0 ∷ get_or p 3 0 ∷ drop 4 p
first-four [] h = absurd (omega arith)
first-four (a ∷ []) h = absurd (omega arith)
first-four (a ∷ b ∷ []) h = absurd (omega arith)
first-four (a ∷ b ∷ c ∷ []) h = absurd (omega arith)
first-four (a ∷ b ∷ c ∷ d ∷ r) h = refl

only-four : (xs : List ℕ) → length xs ≡ 4 → xs ≡ get_or xs 0 0 ∷ get_or xs 1 0 ∷ get_or xs 2 0 ∷ get_or xs 3 0 ∷ []
only-four [] h = absurd (omega arith)
only-four (a ∷ []) h = absurd (omega arith)
only-four (a ∷ b ∷ []) h = absurd (omega arith)
only-four (a ∷ b ∷ c ∷ []) h = absurd (omega arith)
only-four (a ∷ b ∷ c ∷ d ∷ []) h = refl
only-four (a ∷ b ∷ c ∷ d ∷ e ∷ r) h = absurd (omega arith)

take-sum : (a b : ℕ) (xs : List ℕ) → a ≤ length xs → take (a + b) xs ≡ take a xs ++ take b (drop a xs)
take-sum a b xs h =
    sym (take-append-drop a (take (a + b) xs)) ∙
    ap (λ z. z ++ drop a (take (a + b) xs)) (take-take a (a + b) xs (omega arith)) ∙ ap (λ z. take a xs ++ z) (drop-take a b xs)

module _ (k held : ℕ) (p : List ℕ) (long : length p ≡ 512) (byte : Bytes p) (passed : Passes k held p) where
  header : (get_or p 0 0 ≡ count_in p) × (get_or p 1 0 ≡ 0) × (get_or p 2 0 ≡ k % 256) × (get_or p 3 0 ≡ k / 256 % 256)
  unfolding count_in number_in
  header =
      let few : two_at p 0 ≤ 7 = few-from k held p passed in
      let number : get_or p 2 0 + get_or p 3 0 * 256 ≡ k = eqb-true (number_in p) k passed.number in
      let b2 = byte 2 in
      let b3 = byte 3 in
      let q : k / 256 ≡ get_or p 3 0 = omega arith in
      (omega arith, omega arith, omega arith, sym (ap (λ x. x % 256) q ∙ mod-eq_of_lt b3))

  place_is : (s : ℕ) → s < count_in p → entry_bytes (entry_of (place_in s p)) ≡ place_in s p
  place_is s lt =
      let few = few-from k held p passed in
      entry-forth (place_in s p) (length-take 72 (drop (4 + 72 * s) p) ∙ omega (arith, length-drop (4 + 72 * s) p)) (bytes-part p (4 + 72 * s) 72 byte) (each-from_list_all clean (λ s. place_in s p) (count_in p) passed.fillers s lt)

  used : (c : ℕ) → c ≤ count_in p → take (72 * c) (drop 4 p) ≡ flat_map entry_bytes (entries_in c p)
  used zero h = refl
  used (suc c) h =
      let few = few-from k held p passed in
      let width : 72 * suc c ≡ 72 * c + 72 = omega arith in
      let more : entries_in (suc c) p ≡ entries_in c p ++ entry_of (place_in c p) ∷ [] = ap (λ n. entries_in n p) (sym (add-one c)) ∙ map-range_with_len_more (λ s. entry_of (place_in s p)) 0 c c (omega arith) in
      ap (λ w. take w (drop 4 p)) width ∙
      take-sum (72 * c) 72 (drop 4 p) (omega (arith, length-drop 4 p)) ∙
      (λ i. used c (omega arith) i ++ take 72 (drop-drop (72 * c) 4 p i)) ∙
      ap (λ z. flat_map entry_bytes (entries_in c p) ++ z) (sym (place_is c (omega arith)) ∙ sym (append-nil (entry_bytes (entry_of (place_in c p))))) ∙
      sym (ap (flat_map entry_bytes) more ∙ joined-append (entries_in c p) (entry_of (place_in c p) ∷ []))

  unused-is : unused_in p ≡ replicate (504 - 72 * count_in p) 0
  unused-is =
      let few = few-from k held p passed in
      all_zero-means (unused_in p) passed.unused ∙
      ap (λ n. replicate n 0) (length-take (508 - (4 + 72 * count_in p)) (drop (4 + 72 * count_in p) p) ∙ omega (arith, length-drop (4 + 72 * count_in p) p))

  body_is : take 504 (drop 4 p) ≡ body (entries_in (count_in p) p)
  unfolding body
  body_is =
      let few = few-from k held p passed in
      let c : ℕ = count_in p in
      let all : 504 ≡ 72 * count_in p + (504 - 72 * count_in p) = omega arith in
      ap (λ w. take w (drop 4 p)) all ∙
      take-sum (72 * c) (504 - 72 * c) (drop 4 p) (omega (arith, length-drop 4 p)) ∙
      let width : 504 - 72 * count_in p ≡ 508 - (4 + 72 * count_in p) = omega arith in
      (λ i. used c (omega arith) i ++ take (width i) (drop-drop (72 * c) 4 p i)) ∙
      ap (λ z. flat_map entry_bytes (entries_in c p) ++ z) (unused-is ∙ ap (λ n. replicate (504 - 72 * n) 0) (sym (length-entries_in c p)))

  front-is : take 508 p ≡ headed (length (entries_in (count_in p) p)) k (body (entries_in (count_in p) p))
  unfolding headed
  front-is =
      let h = header in
      let n = length-entries_in (count_in p) p in
      ap (take 508) (first-four p (omega arith)) ∙
      (λ i. (h.0 ∙ sym n) i ∷ h.1 i ∷ h.2 i ∷ h.3 i ∷ body_is i)

  pub block-is : p ≡ block k (entries_in (count_in p) p)
  unfolding block sealed checksum_in
  block-is =
      let es : List Entry = entries_in (count_in p) p in
      let w : ℕ = weighed 1 (headed (length es) k (body es)) in
      let check : four_at p 508 ≡ w = eqb-true (checksum_in p) (weighed 1 (take 508 p)) passed.check ∙ ap (weighed 1) front-is in
      let end : drop 508 p ≡ four w [] =
      only-four (drop 508 p) (length-drop 508 p ∙ omega arith) ∙
      (λ i. get_or-drop 508 p 0 0 i ∷ get_or-drop 508 p 1 0 i ∷ get_or-drop 508 p 2 0 i ∷ get_or-drop 508 p 3 0 i ∷ []) ∙
      sym (four-in p 508 [] [] byte refl) ∙ ap (λ n. four n []) check in
      sym (take-append-drop 508 p) ∙ (λ i. front-is i ++ end i)
