-- Groups by their names: the number of a name, and a list of groups that grows.
use Rattle.std.proofs.Common.{◌≡◌, ℕ, zero, suc, ◌+◌, Bool, true, false, cond, ◌&&◌, List, [], ◌∷◌, ◌++◌, map, length, Some, None, Option, ◌⊎◌, inl, inr, refl, ap, subst, ◌∙◌, arith, eqb}
use Rattle.std.specs.List.{slice_get}
use Rattle.std.proofs.lemmas.Bool.{and_parts, eqb-true, eq-eqb, and_from}
use Rattle.forms.specs.declared.contents.GroupName.{GroupName}
use Rattle.groups.specs.Groups.{same_name, number_of}
use Rattle.groups.specs.declared.kept.Group.{Group}

pub equal_names : (a b : GroupName) → same_name a b ≡ true → a ≡ b
equal_names a b e =
    let p = and_parts (eqb a.account b.account) (eqb a.security b.security && eqb a.side b.side) e in
    let q = and_parts (eqb a.security b.security) (eqb a.side b.side) p.1 in
    let x = eqb-true a.account b.account p.0 in
    let y = eqb-true a.security b.security q.0 in
    let z = eqb-true a.side b.side q.1 in
    λ i. record { account = x i; security = y i; side = z i }

pub same_as_itself : (a : GroupName) → same_name a a ≡ true
same_as_itself a = and_from _ _ (eq-eqb a.account a.account refl) (and_from _ _ (eq-eqb a.security a.security refl) (eq-eqb a.side a.side refl))

pub other_names : (a b : GroupName) → (a ≡ b → ⊥) → same_name a b ≡ false
other_names a b differ = go (same_name a b) refl
  where
    go : (c : Bool) → same_name a b ≡ c → c ≡ false
    go true e = absurd (differ (equal_names a b e))
    go false e = refl

-- a group of that name stands at the number
pub record At (gs : List Group) (name : GroupName) (n : ℕ) : Type 0 where
  pub group : Group
  pub place : slice_get gs n ≡ Some group
  pub named : group.name ≡ name

found_in : (name : GroupName) (k : ℕ) (g : Group) (gs : List Group) (n : ℕ) (same : Bool) → same_name g.name name ≡ same → cond same (Some k) (number_of name (k + 1) gs) ≡ Some n
    → (number_of name (k + 1) gs ≡ Some n → (m : ℕ) × ((n ≡ k + 1 + m) × At gs name m)) → (m : ℕ) × ((n ≡ k + m) × At (g ∷ gs) name m)
found_in name k g gs n true e h r =
    let x : k ≡ n = cc in
    (zero, (omega (arith, x), record { group = g; place = refl; named = equal_names g.name name e }))
found_in name k g gs n false e h r =
    let t = r h in
    (suc t.0, (omega (arith, t.1.0), record { group = t.1.1.group; place = t.1.1.place; named = t.1.1.named }))

pub at_number : (name : GroupName) (k : ℕ) (gs : List Group) (n : ℕ) → number_of name k gs ≡ Some n → (m : ℕ) × ((n ≡ k + m) × At gs name m)
at_number name k [] n h = cc
at_number name k (g ∷ gs) n h = found_in name k g gs n (same_name g.name name) refl h (at_number name (k + 1) gs n)

pub at_place : (name : GroupName) (gs : List Group) (n : ℕ) → number_of name 0 gs ≡ Some n → At gs name n
at_place name gs n h =
    let t = at_number name 0 gs n h in
    let e : t.0 ≡ n = omega (arith, t.1.0) in
    subst (λ m. At gs name m) e t.1.1

abbrev pub names_of : List Group → List GroupName
names_of gs = map (λ g. g.name) gs

-- the number depends on the names alone
pub number-names : (name : GroupName) (k : ℕ) (gs hs : List Group) → names_of gs ≡ names_of hs → number_of name k gs ≡ number_of name k hs
number-names name k [] [] e = refl
number-names name k [] (h ∷ hs) e = cc
number-names name k (g ∷ gs) [] e = cc
number-names name k (g ∷ gs) (h ∷ hs) e =
    let a : g.name ≡ h.name = cc in
    let b : names_of gs ≡ names_of hs = cc in
    let r = number-names name (k + 1) gs hs b in
    ap (λ x. cond (same_name x name) (Some k) (number_of name (k + 1) gs)) a ∙ ap (λ o. cond (same_name h.name name) (Some k) o) r

-- one group more: numbers stay, and a new name gets the next
stays : (name : GroupName) (k n : ℕ) (o p : Option ℕ) (same : Bool) → cond same (Some k) o ≡ Some n → (o ≡ Some n → p ≡ Some n) → cond same (Some k) p ≡ Some n
stays name k n o p true h f = h
stays name k n o p false h f = f h

pub number-push_some : (name : GroupName) (k : ℕ) (gs : List Group) (g : Group) (n : ℕ) → number_of name k gs ≡ Some n → number_of name k (gs ++ g ∷ []) ≡ Some n
number-push_some name k [] g n h = cc
number-push_some name k (x ∷ xs) g n h = stays name k n (number_of name (k + 1) xs) (number_of name (k + 1) (xs ++ g ∷ [])) (same_name x.name name) h (number-push_some name (k + 1) xs g n)

abbrev pub last_one : GroupName → ℕ → Group → Option ℕ
last_one name n g = cond (same_name g.name name) (Some n) None

past : (k : ℕ) (o p q : Option ℕ) (same : Bool) → cond same (Some k) o ≡ None → (o ≡ None → p ≡ q) → cond same (Some k) p ≡ q
past k o p q true h f = cc
past k o p q false h f = f h

pub number-push_none : (name : GroupName) (k : ℕ) (gs : List Group) (g : Group) → number_of name k gs ≡ None → number_of name k (gs ++ g ∷ []) ≡ last_one name (k + length gs) g
number-push_none name k [] g h =
    let e : k ≡ k + 0 = omega arith in
    ap (λ n. last_one name n g) e
number-push_none name k (x ∷ xs) g h =
    let e : k + 1 + length xs ≡ k + length (x ∷ xs) = omega arith in
    past k (number_of name (k + 1) xs) _ _ (same_name x.name name) h (λ o. number-push_none name (k + 1) xs g o ∙ ap (λ n. last_one name n g) e)

-- what stands at a place is there with one more behind
pub get-push : {A : Type 0} (xs : List A) (y : A) (n : ℕ) (x : A) → slice_get xs n ≡ Some x → slice_get (xs ++ y ∷ []) n ≡ Some x
get-push [] y n x h = cc
get-push (z ∷ zs) y zero x h = h
get-push (z ∷ zs) y (suc n) x h = get-push zs y n x h

-- and what stands there was there before, or is the last
pub get-push_cases : {A : Type 0} (xs : List A) (y : A) (n : ℕ) (x : A) → slice_get (xs ++ y ∷ []) n ≡ Some x → (slice_get xs n ≡ Some x) ⊎ ((n ≡ length xs) × (x ≡ y))
get-push_cases [] y zero x h = inr (refl, cc)
get-push_cases [] y (suc n) x h = cc
get-push_cases (z ∷ zs) y zero x h = inl h
get-push_cases (z ∷ zs) y (suc n) x h = step (get-push_cases zs y n x h)
  where
    step : (slice_get zs n ≡ Some x) ⊎ ((n ≡ length zs) × (x ≡ y)) → (slice_get zs n ≡ Some x) ⊎ ((suc n ≡ length (z ∷ zs)) × (x ≡ y))
    step (inl e) = inl e
    step (inr e) = inr (omega (arith, e.0), e.1)
