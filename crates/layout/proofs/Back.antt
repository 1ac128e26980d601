-- What is written into a layout's fields is read from them.
use Rattle.std.proofs.Common.{◌≡◌, ℕ, ◌+◌, ◌-◌, Bool, true, false, cond, eqb, List, [], ◌∷◌, ◌++◌, length, take, Some, None, Option, sym, refl, ap, ◌∙◌, subst, arith, length-append}
use Rattle.std.proofs.lemmas.List.{append_assoc, drop_at, take_at}
use Rattle.std.proofs.lemmas.Bool.{eqb-true, and_parts}
use Rattle.layout.specs.Items.{same_item}
use Rattle.layout.specs.Values.{Content, bytes_in}
use Rattle.layout.specs.Layouts.{part_of, field_of, record_of, tiles, ReadsBack}
use Rattle.layout.specs.declared.field.Item.{Item}
use Rattle.layout.specs.declared.field.Field.{Field}
use Rattle.layout.proofs.Records.{length-bytes_in}

abbrev somed : Field → Option Field → Field
somed d (Some f) = f
somed d None = d

-- the field at the front
at_front : (says : Field → Content) (g : Field) (k : ℕ) (pre rest : List ℕ) → g.first ≡ k → k ≡ length pre + 1 → part_of g (pre ++ (bytes_in g.width (says g) ++ rest)) ≡ bytes_in g.width (says g)
at_front says g k pre rest e h =
    let b = bytes_in g.width (says g) in
    let p : length pre ≡ g.first - 1 = omega arith in
    let w = length-bytes_in g.width (says g) in
    ap (take g.width) (drop_at pre (b ++ rest) (g.first - 1) p) ∙ take_at b rest g.width w

-- either the field at the front is the one, or it is further behind
step : (says : Field → Content) (i : Item) (f g : Field) (gs : List Field) (k : ℕ) (pre : List ℕ) (same : Bool) → eqb g.first k ≡ true → k ≡ length pre + 1 → cond same (Some g) (field_of i gs) ≡ Some f → (field_of i gs ≡ Some f → part_of f ((pre ++ bytes_in g.width (says g)) ++ record_of says gs) ≡ bytes_in f.width (says f)) → part_of f (pre ++ record_of says (g ∷ gs)) ≡ bytes_in f.width (says f)
step says i f g gs k pre true e h s rest =
    subst (λ x. part_of x (pre ++ record_of says (g ∷ gs)) ≡ bytes_in x.width (says x)) (ap (somed g) s) (at_front says g k pre (record_of says gs) (eqb-true g.first k e) h)
step says i f g gs k pre false e h s rest =
    ap (part_of f) (sym (append_assoc pre (bytes_in g.width (says g)) (record_of says gs))) ∙ rest s

back_at : (says : Field → Content) (i : Item) (f : Field) (fs : List Field) (k n : ℕ) (pre : List ℕ) → tiles k fs n ≡ true → k ≡ length pre + 1 → field_of i fs ≡ Some f → part_of f (pre ++ record_of says fs) ≡ bytes_in f.width (says f)
back_at says i f [] k n pre t h s = grind arith
back_at says i f (g ∷ gs) k n pre t h s =
    let b = bytes_in g.width (says g) in
    let w = length-bytes_in g.width (says g) in
    let t2 = and_parts (eqb g.first k) (tiles (k + g.width) gs n) t in
    let l : k + g.width ≡ length (pre ++ b) + 1 = simp length-append (omega arith) in
    step says i f g gs k pre (same_item g.item i) t2.0 h s (λ s2. back_at says i f gs (k + g.width) n (pre ++ b) t2.1 l s2)

pub reads-back : (fs : List Field) (n : ℕ) → tiles 1 fs n ≡ true → ReadsBack fs
reads-back fs n t says i f e =
    ap (λ o. elim o [ Some g ↦ part_of g (record_of says fs) | None ↦ [] ]) e
    ∙ back_at says i f fs 1 n [] t refl e
