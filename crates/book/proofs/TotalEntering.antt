-- A total to which no ground applies has its place in the day's table.
use Rattle.std.proofs.Common.{◌≡◌, ℕ, ◌*◌, ◌<◌, Bool, true, false, cond, not, ◌&&◌, eqb, ltb, List, [], ◌∷◌, ◌++◌, length, unwrap_or, is_some, Some, None, Ok, Err, Option, Result, refl, arith, length-append, get_or, IfSome}
use Rattle.std.specs.List.{sum_by}
use Rattle.std.proofs.lemmas.Bool.{ne_eqb, lt-ltb}
use Rattle.std.proofs.lemmas.List.{length-take-le}
use Rattle.std.proofs.lemmas.List.Folds.{list_any_none}
use Rattle.std.proofs.lemmas.List.Sums.{sum_by-le}
use Rattle.std.proofs.lemmas.Option.{slice_get_within}
use Rattle.lots.specs.Units.{shares_to_unit}
use Rattle.lots.specs.declared.units.Kind.{Kind}
use Rattle.lots.specs.declared.units.Shares.{Shares}
use Rattle.forms.specs.Totals.{group_in}
use Rattle.forms.specs.declared.contents.GroupName.{GroupName}
use Rattle.forms.specs.declared.totals.BadField.{BadField}
use Rattle.groups.specs.Each.{of_group_and_kind, OfGroups}
use Rattle.groups.specs.Groups.{groups_of, totals_of, has_total, number_of}
use Rattle.groups.specs.Sums.{traded_by, comes_over}
use Rattle.groups.specs.declared.kept.Group.{Group}
use Rattle.groups.specs.declared.kept.GroupTable.{GroupTable}
use Rattle.groups.specs.declared.kept.Total.{Total}
use Rattle.judge.specs.Grounds.{first_of}
use Rattle.judge.specs.Totals.{TotalAsked, placed_grounds, is_full}
use Rattle.judge.specs.declared.totals.TotalTerms.{TotalTerms}
use Rattle.judge.proofs.Firsts.{none_all}
use Rattle.book.specs.Book.{Book}
use Rattle.book.specs.Totals.{number_of_total}
use Rattle.book.proofs.Names.{at_place}

-- no total is of the group behind the last
not-of : (n : ℕ) (t : Total) → t.group < n → eqb t.group n ≡ false
not-of n t h = ne_eqb t.group n (λ e. omega (arith, e, h))

none-of : (n : ℕ) (k : Kind) (ts : List Total) → OfGroups n ts → has_total n k ts ≡ false
none-of n k ts of = list_any_none (of_group_and_kind n k) ts (λ i d h. rw (not-of n (get_or ts i d) (of i d h)))

nothing-of : (n : ℕ) (f : Total → ℕ) (ts : List Total) → OfGroups n ts → sum_by (λ t. cond (eqb t.group n) (f t) 0) ts ≡ 0
nothing-of n f ts of =
    let most = sum_by-le (λ t. cond (eqb t.group n) (f t) 0) 0 ts (λ i d h. rw (not-of n (get_or ts i d) (of i d h)) (omega arith)) in
    omega (arith, most)

-- what passed grounds say of the total
record Placed (gs : List Group) (ts : List Total) (number : Option ℕ) (kind : Kind) (t : TotalTerms) : Type 0 where
  none : has_total (unwrap_or number (length gs)) kind ts ≡ false
  fits : comes_over (traded_by (unwrap_or number (length gs)) ts) (t.quantity * shares_to_unit kind t.size) t.amount.count ≡ false
  free : is_full gs number ≡ false

placed : (gs : List Group) (ts : List Total) (number : Option ℕ) (kind : Kind) (t : TotalTerms) → OfGroups (length gs) ts → first_of (placed_grounds gs ts number kind t) ≡ None → Placed gs ts number kind t
placed gs ts (Some n) kind t of h =
    let u = none_all (placed_grounds gs ts (Some n) kind t) h in
    record { none = u.1.0; fits = u.1.1.0; free = u.1.1.1.0 }
placed gs ts None kind t of h =
    let u = none_all (placed_grounds gs ts None kind t) h in
    record {
      none = none-of (length gs) kind ts of;
      fits = rw (nothing-of (length gs) (λ x. x.shares.count) ts of, nothing-of (length gs) (λ x. x.amount.count) ts of) u.1.1.0;
      free = u.1.1.1.0;
    }

-- the number of a total's group is among the numbers of the groups
known : (b : Book) (a : TotalAsked) → IfSome (number_of_total b a) (λ n. n < length b.groups)
known b a = of (group_in b.rules a.group)
  where
    found : (name : GroupName) (o : Option ℕ) → number_of name 0 b.groups ≡ o → IfSome o (λ n. n < length b.groups)
    found name None e = tt
    found name (Some n) e = let p = at_place name b.groups n e in slice_get_within b.groups n p.group p.place

    of : (r : Result GroupName BadField) → IfSome (elim r [ Ok name ↦ number_of name 0 b.groups | Err bad ↦ None ]) (λ n. n < length b.groups)
    of (Ok name) = found name (number_of name 0 b.groups) refl
    of (Err bad) = tt

-- the same of the day as it is opened, v
pub known-in : (v b : Book) (a : TotalAsked) (n : Option ℕ) → v ≡ b → n ≡ number_of_total b a → IfSome n (λ k. k < length v.groups)
known-in v b a n same number = rw (same, number) (known b a)

-- the number that is given is that of a group, once a group without a number has become the last
within : (gs : List Group) (g : Group) (number : Option ℕ) → IfSome number (λ n. n < length gs) → ltb (unwrap_or number (length gs)) (length (cond (is_some number) gs (gs ++ g ∷ []))) ≡ true
within gs g (Some n) h = lt-ltb n (length gs) h
within gs g None h = lt-ltb (length gs) (length (gs ++ g ∷ [])) (omega (arith, length-append gs (g ∷ [])))

-- the groups of a table are as many as it counts, so its totals are of them
of-groups : (t : GroupTable) → OfGroups (length (groups_of t)) (totals_of t)
of-groups t = λ k d h. omega (arith, t.of_groups k d h, length-take-le t.count t.groups, t.few, t.places)

-- what a table that accepted the total then keeps
pub kept : (t : GroupTable) (number : Option ℕ) (kind : Kind) (terms : TotalTerms) (g : Group) (n : ℕ) (gs : List Group) (ts : List Total) (s : Shares) (r : Bool) (after : List Total)
    → first_of (placed_grounds (groups_of t) (totals_of t) number kind terms) ≡ None → IfSome number (λ k. k < length (groups_of t))
    → n ≡ unwrap_or number (length (groups_of t)) → gs ≡ cond (is_some number) (groups_of t) (groups_of t ++ g ∷ []) → ts ≡ totals_of t → s ≡ record { count = terms.quantity * shares_to_unit kind terms.size }
    → r ≡ (ltb n (length gs) && not (has_total n kind ts) && not (comes_over (traded_by n ts) s.count terms.amount.count))
    → after ≡ cond r (ts ++ record { group = n; kind = kind; quantity = terms.quantity; shares = s; amount = terms.amount } ∷ []) ts
    → after ≡ totals_of t ++ record { group = unwrap_or number (length (groups_of t)); kind = kind; quantity = terms.quantity; shares = record { count = terms.quantity * shares_to_unit kind terms.size }; amount = terms.amount } ∷ []
kept t number kind terms g n gs ts s r after grounds below en eg et es answer end =
    let p = placed (groups_of t) (totals_of t) number kind terms (of-groups t) grounds in
    let yes : r ≡ true = rw (answer, en, eg, et, es, within (groups_of t) g number below, p.none, p.fits) in
    rw (yes, en, et, es) at end
