-- Laws of `spliced`.
use Rattle.std.proofs.Common.{◌≡◌, ℕ, ◌+◌, ◌≤◌, List, ◌++◌, length, sym, refl, ◌∙◌, arith, length-append, length-drop, length-take}
use borrow.Rule.Slice.PartMut.{put_mid}
use lib.Seq.{paste}
use Rattle.std.proofs.lemmas.List.Edits.{paste_all, paste-paste}
use Rattle.std.proofs.lemmas.Slice.{put_mid-paste}
use Rattle.octets.specs.Splice.{spliced}

-- a write to a part of k bytes
pub spliced-part : (d : List ℕ) (at k : ℕ) (ys s : List ℕ) → ys ≡ s → k ≡ length s → put_mid at k d ys ≡ spliced d at s
spliced-part d at k ys s e f = put_mid-paste at k d ys s (length s) e (sym f) refl ∙ paste_all d at s (length s) refl

-- one write behind another
pub spliced-spliced : (d : List ℕ) (at next : ℕ) (s t : List ℕ) → next ≡ at + length s → at ≤ length d → spliced (spliced d at s) next t ≡ spliced d at (s ++ t)
spliced-spliced d at next s t e h =
    let p1 : paste d at s (length s) ≡ spliced d at s = paste_all d at s (length s) refl in
    let p2 : paste (spliced d at s) next t (length t) ≡ spliced (spliced d at s) next t = paste_all (spliced d at s) next t (length t) refl in
    let p3 : paste (paste d at s (length s)) (at + length s) t (length t) ≡ paste d at (s ++ t) (length s + length t) = paste-paste d at s t (length s) (length t) refl refl h in
    let p4 : paste d at (s ++ t) (length (s ++ t)) ≡ spliced d at (s ++ t) = paste_all d at (s ++ t) (length (s ++ t)) refl in
    let p5 : length (s ++ t) ≡ length s + length t = length-append s t in
    cc

pub length-spliced : (d : List ℕ) (at : ℕ) (s : List ℕ) → at + length s ≤ length d → length (spliced d at s) ≡ length d
length-spliced d at s h = simp (length-append, length-take, length-drop) (omega arith)
