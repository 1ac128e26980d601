-- Records one behind another, and what an iterator gives of them.
use Rattle.std.proofs.Common.{◌≡◌, ℕ, ◌+◌, ◌*◌, ◌<◌, ◌≤◌, List, [], ◌∷◌, ◌++◌, length, get_or, drop, Some, refl, sym, subst, ap, ◌∙◌, arith, append_assoc, append-nil, map-id, length-append}
use Rattle.std.specs.declared.option.Option.{Option}
use Rattle.std.specs.Iterator.{Yields, Drains, HoldsAlong}
use Rattle.std.proofs.iter.Next.{Yields-more}
use Rattle.std.proofs.iter.Yields.{gives_left, gives_Drains}
use Rattle.std.proofs.lemmas.Iterator.{YieldsList}
use Rattle.std.proofs.lemmas.List.{drop_more}
use Rattle.octets.specs.Splice.{spliced}
use Rattle.octets.proofs.Splices.{spliced-spliced, length-spliced}
use Rattle.layout.specs.Values.{Content}
use Rattle.layout.specs.Layouts.{width_of, record_of}
use Rattle.layout.specs.declared.field.Field.{Field}
use Rattle.layout.proofs.Widths.{length-record}
use Rattle.forms.specs.Records.{records_of}

module _ {C : Type 0} (says : C → Field → Content) (fs : List Field) where
  -- one record for each
  pub length-records : (cs : List C) → length (records_of says fs cs) ≡ length cs * width_of fs
  length-records [] = omega arith
  length-records (c ∷ cs) = omega (arith, length-append (record_of (says c) fs) (records_of says fs cs), length-record (says c) fs, length-records cs)

  records-append : (cs ds : List C) → records_of says fs (cs ++ ds) ≡ records_of says fs cs ++ records_of says fs ds
  records-append [] ds = refl
  records-append (c ∷ cs) ds = ap (λ x. record_of (says c) fs ++ x) (records-append cs ds) ∙ sym (append_assoc (record_of (says c) fs) (records_of says fs cs) (records_of says fs ds))

  -- one record more
  records-more : (cs : List C) (c : C) → records_of says fs (cs ++ c ∷ []) ≡ records_of says fs cs ++ record_of (says c) fs
  records-more cs c = records-append cs (c ∷ []) ∙ ap (λ x. records_of says fs cs ++ x) (append-nil (record_of (says c) fs))

  pub length-more : (cs : List C) (c : C) → length (records_of says fs (cs ++ c ∷ [])) ≡ length (records_of says fs cs) + width_of fs
  length-more cs c = omega (arith, ap length (records-more cs c), length-append (records_of says fs cs) (record_of (says c) fs), length-record (says c) fs)

  pub one-more : (cs : List C) (c : C) (at : ℕ) (first buf y : List ℕ) → at ≡ length (records_of says fs cs) → buf ≡ spliced first 0 (records_of says fs cs) → y ≡ spliced buf at (record_of (says c) fs) → y ≡ spliced first 0 (records_of says fs (cs ++ c ∷ []))
  one-more cs c at first buf y n b e =
      e
      ∙ ap (λ z. spliced z at (record_of (says c) fs)) b
      ∙ spliced-spliced first 0 at (records_of says fs cs) (record_of (says c) fs) (omega (arith, n)) (omega arith)
      ∙ ap (spliced first 0) (sym (records-more cs c))

  -- there is room for one record more, where there is for all that may come
  pub room-next : {S : Type 0} (steps : S → Option C → S → Type 0) {first s : S} (seen : List C) (t : S) (c : C) (u : S) (at n : ℕ) → HoldsAlong steps first (λ ds. length (records_of says fs ds) ≤ n) → s ≡ first → Yields steps s seen t → steps t (Some c) u → at ≡ length (records_of says fs seen) → at + width_of fs ≤ n
  room-next {S} steps {first} {s} seen t c u at n h e y p q =
      let more = Yields-more steps first seen t c u (subst (λ k. Yields steps k seen t) e y) p in
      omega (arith, q, length-more seen c, h (seen ++ c ∷ []) u more)

  module _ {S : Type 0} {steps : S → Option C → S → Type 0} {s : S} {cs : List C} (road : YieldsList steps (λ c. c) s cs) where
    -- there is room for what came, where there is for all that comes
    pub room-along : (n : ℕ) → length (records_of says fs cs) ≤ n → HoldsAlong steps s (λ ds. length (records_of says fs ds) ≤ n)
    room-along n h ds t y =
        let k = gives_left steps (λ c. c) ds cs s t road.runs y in
        let e : cs ≡ ds ++ k.0 = k.1 ∙ ap (λ z. z ++ k.0) (map-id ds) in
        omega (arith, h, ap (λ z. length (records_of says fs z)) e, ap length (records-append ds k.0), length-append (records_of says fs ds) (records_of says fs k.0))

    -- what came to the end is all that comes
    pub all-written : (buf first : List ℕ) (ds : List C) → Drains steps s ds → buf ≡ spliced first 0 (records_of says fs ds) → buf ≡ spliced first 0 (records_of says fs cs)
    all-written buf first ds d e = e ∙ ap (λ z. spliced first 0 (records_of says fs z)) (sym (map-id ds) ∙ gives_Drains steps (λ c. c) ds cs s road.runs d)

-- c is the next of those that are left
pub next-is : {C : Type 0} (cs : List C) (i : ℕ) (c : C) → i < length cs → c ≡ get_or cs i c → drop i cs ≡ c ∷ drop (i + 1) cs
next-is cs i c h e = drop_more cs i c h ∙ ap (λ x. x ∷ drop (i + 1) cs) (sym e)

-- there is room for it
pub room_next : {C : Type 0} (says : C → Field → Content) (fs : List Field) (cs : List C) (i : ℕ) (c : C) (at n : ℕ) → drop i cs ≡ c ∷ drop (i + 1) cs → at + length (records_of says fs (drop i cs)) ≤ n → at + width_of fs ≤ n
room_next says fs cs i c at n e r =
    let r2 = rw e at r in
    omega (arith, length-append (record_of (says c) fs) (records_of says fs (drop (i + 1) cs)), length-record (says c) fs)

pub one-record : {C : Type 0} (says : C → Field → Content) (fs : List Field) (cs : List C) (i : ℕ) (c : C) (at : ℕ) (buf y : List ℕ) → drop i cs ≡ c ∷ drop (i + 1) cs → at + length (records_of says fs (drop i cs)) ≤ length buf → y ≡ spliced buf at (record_of (says c) fs) → (spliced y (at + width_of fs) (records_of says fs (drop (i + 1) cs)) ≡ spliced buf at (records_of says fs (drop i cs))) × (at + width_of fs + length (records_of says fs (drop (i + 1) cs)) ≤ length y)
one-record says fs cs i c at buf y e r s =
    let r2 = rw e at r in
    let rest = records_of says fs (drop (i + 1) cs) in
    let k = length-record (says c) fs in
    let n : at + width_of fs ≡ at + length (record_of (says c) fs) = omega arith in
    let a = length-append (record_of (says c) fs) rest in
    let p = spliced-spliced buf at (at + width_of fs) (record_of (says c) fs) rest n (omega arith) in
    let q = length-spliced buf at (record_of (says c) fs) (omega arith) in (
      ap (λ z. spliced z (at + width_of fs) rest) s ∙ p ∙ ap (λ z. spliced buf at (records_of says fs z)) (sym e),
      omega (arith, ap length s),
    )
