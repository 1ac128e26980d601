-- Laws of records by their fields.
use Rattle.std.proofs.Common.{◌≡◌, ℕ, ◌+◌, ◌≤◌, List, [], ◌∷◌, ◌++◌, length, take, drop, sym, ap, ◌∙◌, add-zero, arith, length-append, length-drop, take-append-drop, length-take}
use borrow.Rule.Slice.PartMut.{put_mid}
use lib.ListN.{length-replicate}
use Rattle.octets.specs.Splice.{spliced, blank}
use Rattle.octets.proofs.Splices.{spliced-part, spliced-spliced, length-spliced}
use Rattle.octets.proofs.Numbers.{length_digits}
use Rattle.octets.proofs.Packs.{length-unpacked}
use Rattle.layout.specs.Values.{Content, text, packed_text, number, blanks, fitted, bytes_in}
use Rattle.layout.specs.Layouts.{width_of, record_of}
use Rattle.layout.specs.declared.field.Field.{Field}

pub length-fitted : (w : ℕ) (bs : List ℕ) → length (fitted w bs) ≡ w
length-fitted w bs = simp (length-append, length-take, length-replicate) (omega arith)

pub length-bytes_in : (w : ℕ) (v : Content) → length (bytes_in w v) ≡ w
length-bytes_in w (text bs) = length-fitted w bs
length-bytes_in w (packed_text n) = length-unpacked w n
length-bytes_in w (number n) = length_digits w n
length-bytes_in w blanks = length-replicate w blank

-- one field more of those that are left, where the k bytes of its place now are y
pub one_field : (says : Field → Content) (f : Field) (fs : List Field) (buf y : List ℕ) (pos k : ℕ) (v : Content) → k ≡ f.width → y ≡ bytes_in (length (take k (drop pos buf))) v → v ≡ says f → pos + width_of (f ∷ fs) ≤ length buf → (spliced (put_mid pos k buf y) (pos + f.width) (record_of says fs) ≡ spliced buf pos (record_of says (f ∷ fs))) × (pos + f.width + width_of fs ≤ length (put_mid pos k buf y))
one_field says f fs buf y pos k v e told value h =
    let b = bytes_in f.width (says f) in
    let w = length-bytes_in f.width (says f) in
    let place : length (take k (drop pos buf)) ≡ f.width = simp (length-take, length-drop) (omega arith) in
    let bytes : y ≡ b = told ∙ ap (λ n. bytes_in n v) place ∙ ap (bytes_in f.width) value in
    let part = spliced-part buf pos k y b bytes (omega arith) in
    let next : pos + f.width ≡ pos + length b = omega arith in
    let p = spliced-spliced buf pos (pos + f.width) b (record_of says fs) next (omega arith) in
    let q = length-spliced buf pos b (omega arith) in
    (ap (λ x. spliced x (pos + f.width) (record_of says fs)) part ∙ p, omega (arith, ap length part))

-- a write of nothing
pub spliced-none : (d : List ℕ) (at : ℕ) → d ≡ spliced d at []
spliced-none d at = sym (rw (add-zero, take-append-drop))
