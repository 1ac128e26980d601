-- There are no more totals than places, since a group and kind have one.
use Rattle.std.proofs.Common.{◌≡◌, ℕ, ◌+◌, ◌*◌, ◌<◌, ◌≤◌, Bool, true, false, not, ◌&&◌, eqb, List, [], ◌∷◌, ◌++◌, length, map, get_or, refl, sym, ◌∙◌, arith, eq-eqb, length-append}
use Rattle.std.specs.List.{All, IsDistinct}
use Rattle.std.specs.Cmp.{unsigned_Decides}
use Rattle.std.proofs.lemmas.Bool.{false≢true, false_from_ne_true}
use Rattle.std.proofs.lemmas.List.{length-map, get_or-map}
use Rattle.std.proofs.lemmas.List.Elements.{All-contains, All-push}
use Rattle.std.proofs.lemmas.List.Folds.{list_any_at}
use Rattle.std.proofs.lemmas.List.Quantifiers.{all_pairs_push}
use Rattle.std.proofs.lemmas.Map.Made.{IsDistinct-from_AllPairs}
use Rattle.std.proofs.lemmas.Map.Steps.{length-le_from_distinct_below}
use Rattle.std.proofs.lemmas.Map.Views.{exact_unsigned_eq, Contains-from_any}
use Rattle.lots.specs.Units.{kind_number}
use Rattle.lots.specs.declared.units.Kind.{Kind}
use Rattle.lots.specs.declared.units.Kind.TheVariants.{BoardLot, OddLot}
use Rattle.groups.specs.Limits.{most_groups, most_totals}
use Rattle.groups.specs.Each.{of_group_and_kind, OneOfEach, OfGroups}
use Rattle.groups.specs.Groups.{has_total}
use Rattle.groups.specs.declared.kept.Total.{Total}

-- a number below 128 for each group and kind
abbrev place_of : ℕ → Kind → ℕ
place_of n BoardLot = n * 2
place_of n OddLot = n * 2 + 1

abbrev place : Total → ℕ
place t = place_of t.group t.kind

-- the places of two totals differ unless they are of one group and kind
apart : (n m : ℕ) (j k : Kind) → (eqb n m && eqb (kind_number j) (kind_number k)) ≡ false → place_of n j ≡ place_of m k → ⊥
apart n m BoardLot BoardLot e s = let h : n ≡ m = omega arith in grind (arith, eq-eqb n m h)
apart n m BoardLot OddLot e s = omega arith
apart n m OddLot BoardLot e s = omega arith
apart n m OddLot OddLot e s = let h : n ≡ m = omega arith in grind (arith, eq-eqb n m h)

place-below : (n : ℕ) (k : Kind) → n < most_groups → place_of n k < most_totals
place-below n BoardLot h = omega arith
place-below n OddLot h = omega arith

pub more : (ts : List Total) (t : Total) → OneOfEach ts → has_total t.group t.kind ts ≡ false → OneOfEach (ts ++ t ∷ [])
more ts t each none =
    all_pairs_push (λ a b. of_group_and_kind b.group b.kind a ≡ false) ts t each (λ k d h. false_from_ne_true _ (λ e. false≢true (sym none ∙ list_any_at (of_group_and_kind t.group t.kind) ts k d h e)))

distinct : (ts : List Total) → OneOfEach ts → IsDistinct eqb (map place ts)
distinct [] each = IsDistinct-from_AllPairs unsigned_Decides [] (λ i j d lt within s. omega (arith, within))
distinct (t ∷ ts) each = IsDistinct-from_AllPairs unsigned_Decides (map place (t ∷ ts)) (λ i j d lt within s.
    let long = length-map (t ∷ ts) place in
    let inside : j < length (t ∷ ts) = omega (arith, long) in
    let e = get_or-map place (t ∷ ts) i t d (omega arith) in
    let f = get_or-map place (t ∷ ts) j t d inside in
    apart _ _ _ _ (each i j t lt inside) (sym e ∙ s ∙ f))

below : (n : ℕ) (ts : List Total) → n ≤ most_groups → OfGroups n ts → All (λ q. q < most_totals) (map place ts)
below n [] few of = λ k d h. absurd (omega (arith, h))
below n (t ∷ ts) few of = λ k d h.
    let inside : k < length (t ∷ ts) = omega (arith, length-map (t ∷ ts) place) in
    rw (get_or-map place (t ∷ ts) k t d inside) (let h : (get_or (t ∷ ts) k t).group < n = of k t inside in place-below _ _ (omega arith))

fit : (n : ℕ) (ts : List Total) → n ≤ most_groups → OneOfEach ts → OfGroups n ts → length ts ≤ most_totals
fit n ts few each of =
    let most = length-le_from_distinct_below (map place ts) most_totals (distinct ts each) (λ q e. All-contains (λ q. q < most_totals) (map place ts) q (below n ts few of) (Contains-from_any exact_unsigned_eq q (map place ts) e)) in
    omega (arith, most, length-map ts place)

-- where a group has no total of a kind, there is a place for it
pub free : (n : ℕ) (ts : List Total) (t : Total) → n ≤ most_groups → OneOfEach ts → OfGroups n ts → t.group < n → has_total t.group t.kind ts ≡ false → length ts < most_totals
free n ts t few each of h none =
    omega (arith, fit n (ts ++ t ∷ []) few (more ts t each none) (All-push (λ y. y.group < n) ts t of h), length-append ts (t ∷ []))

-- what an answer of yes says
pub takes : (a b c : Bool) → true ≡ (a && not b && not c) → (a ≡ true) × (b ≡ false) × (c ≡ false)
takes true false false e = (refl, refl, refl)
takes true false true e = cc
takes true true c e = cc
takes false b c e = cc
