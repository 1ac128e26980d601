-- A total to which no ground applies keeps what every run keeps.
use Rattle.std.proofs.Common.{◌≡◌, ℕ, ◌+◌, ◌*◌, ◌/◌, ◌%◌, ◌<◌, ◌≤◌, Bool, true, false, cond, ◌&&◌, ◌||◌, eqb, leb, List, [], ◌∷◌, ◌++◌, length, is_some, Some, None, Ok, Err, Option, unwrap_or, option_map, refl, sym, ap, subst, ◌∙◌, arith}
use Rattle.std.proofs.lemmas.Bool.{and_parts, eqb-true, leb-true, not-false, cond-true, cond-false}
use Rattle.std.proofs.Math.Nat.{le-mul_of_pos_right}
use Rattle.octets.specs.Options.{and_then}
use Rattle.lots.specs.Units.{per_cent, whole_cents, unit_size, shares_in, shares_to_unit}
use Rattle.lots.specs.declared.units.Cents.{Cents}
use Rattle.lots.specs.declared.units.Kind.{Kind}
use Rattle.lots.specs.declared.units.Kind.TheVariants.{BoardLot, OddLot}
use Rattle.lots.specs.declared.units.UnitSize.{UnitSize}
use Rattle.lots.specs.declared.units.UnitSize.TheVariants.{One, Ten, Hundred, Thousand}
use Rattle.lots.proofs.Figures.{unit_range}
use Rattle.families.specs.Accounts.{own_of}
use Rattle.families.specs.Parts.{GroupParts}
use Rattle.families.specs.declared.accounts.OwnAccount.{OwnAccount}
use Rattle.families.specs.declared.family.Rules.{Rules}
use Rattle.forms.specs.Totals.{group_in, security_in, side_in, own_account, or_bad}
use Rattle.forms.specs.declared.contents.GroupName.{GroupName}
use Rattle.forms.specs.declared.totals.BadField.TheVariants.{Account as BadAccount, Security as BadSecurity, Side as BadSide}
use Rattle.groups.specs.Groups.{same_name, number_of, some}
use Rattle.groups.specs.declared.kept.Group.{Group}
use Rattle.groups.specs.declared.kept.Total.{Total}
use Rattle.judge.specs.Grounds.{first_of}
use Rattle.judge.specs.Totals.{TotalAsked, total_terms}
use Rattle.judge.specs.declared.totals.TotalTerms.{TotalTerms}
use Rattle.judge.proofs.Firsts.{none_all}
use Rattle.book.specs.Book.{Book}
use Rattle.book.specs.Tally.{Tally, Traded, shares_each, total_heard, with_traded}
use Rattle.book.specs.Totals.{number_of_total, name_of_total, kind_of_total, terms_of_total, total_grounds_in, totalled}
use Rattle.book.proofs.Names.{names_of}
use Rattle.book.proofs.Passed.{some_of, whole_cents_lem}
use Rattle.book.proofs.Sound.{Sound}
use Rattle.book.proofs.Totalling.{total_sound_old, total_sound_new}

-- a group's name is among the names where it has a number
pub named_among : (name : GroupName) (k : ℕ) (gs : List Group) → some (λ g. same_name g name) (names_of gs) ≡ is_some (number_of name k gs)
named_among name k [] = refl
named_among name k (g ∷ gs) = go (same_name g.name name) (named_among name (k + 1) gs)
  where
    go : (c : Bool) → some (λ x. same_name x name) (names_of gs) ≡ is_some (number_of name (k + 1) gs) → (c || some (λ x. same_name x name) (names_of gs)) ≡ is_some (cond c (Some k) (number_of name (k + 1) gs))
    go true h = refl
    go false h = h

-- what is read of a total's figures
pub record Figures (unit q amount : ℕ) (t : TotalTerms) : Type 0 where
  pub size : shares_in t.size ≡ unit
  pub quantity : t.quantity ≡ q
  pub cents : t.amount.count ≡ amount / per_cent
  pub some_quantity : 0 < q

size_told : (unit : ℕ) (a b c d : Bool) → eqb unit 1 ≡ a → eqb unit 10 ≡ b → eqb unit 100 ≡ c → eqb unit 1000 ≡ d → (size : UnitSize) → cond a (Some One) (cond b (Some Ten) (cond c (Some Hundred) (cond d (Some Thousand) None))) ≡ Some size → shares_in size ≡ unit
size_told unit true b c d p q r s size h =
    let e : One ≡ size = cc in
    ap shares_in (sym e) ∙ sym (eqb-true unit 1 p)
size_told unit false true c d p q r s size h =
    let e : Ten ≡ size = cc in
    ap shares_in (sym e) ∙ sym (eqb-true unit 10 q)
size_told unit false false true d p q r s size h =
    let e : Hundred ≡ size = cc in
    ap shares_in (sym e) ∙ sym (eqb-true unit 100 r)
size_told unit false false false true p q r s size h =
    let e : Thousand ≡ size = cc in
    ap shares_in (sym e) ∙ sym (eqb-true unit 1000 s)
size_told unit false false false false p q r s size h = cc

told_by : (unit q amount : ℕ) (size : Option UnitSize) (cents : Option Cents) (a : Bool) (t : TotalTerms) → unit_size unit ≡ size → (leb 1 q && leb q 99999999) ≡ a → whole_cents amount ≡ cents
    → and_then size (λ u. cond a (and_then cents (λ c. cond (leb 1 c.count && leb c.count 99999999999999) (Some (let x : TotalTerms = record { size = u; quantity = q; amount = c } in x)) None)) None) ≡ Some t → Figures unit q amount t
told_by unit q amount None cents a t p r s h = cc
told_by unit q amount (Some u) cents false t p r s h = cc
told_by unit q amount (Some u) None true t p r s h = cc
told_by unit q amount (Some u) (Some c) true t p r s h = go (leb 1 c.count && leb c.count 99999999999999) h
  where
    go : (b : Bool) → cond b (Some (let x : TotalTerms = record { size = u; quantity = q; amount = c } in x)) None ≡ Some t → Figures unit q amount t
    go true h =
        let e : record { size = u; quantity = q; amount = c } ≡ t = cc in
        let few = leb-true 1 q (and_parts (leb 1 q) (leb q 99999999) r).0 in
        record {
          size = ap (λ x. shares_in x.size) (sym e) ∙ size_told unit (eqb unit 1) (eqb unit 10) (eqb unit 100) (eqb unit 1000) refl refl refl refl u p;
          quantity = ap (λ x. x.quantity) (sym e);
          cents = ap (λ x. x.amount.count) (sym e) ∙ whole_cents_lem amount (eqb (amount % per_cent) 0) c s;
          some_quantity = omega (arith, few);
        }
    go false h = cc

pub figures_told : (unit q amount : ℕ) (t : TotalTerms) → total_terms unit q amount ≡ Some t → Figures unit q amount t
figures_told unit q amount t h = told_by unit q amount (unit_size unit) (whole_cents amount) (leb 1 q && leb q 99999999) t refl refl refl h

-- an account with a stem of the family has a number, and names a group with a security and a side
own_read : (r : Rules) (a : List ℕ) → is_some (own_of r a) ≡ true → (n : ℕ) × (own_account r a ≡ Some n)
own_read r a h = go (own_of r a) h
  where
    go : (o : Option OwnAccount) → is_some o ≡ true → (n : ℕ) × (option_map (λ (x : OwnAccount). x.number) o ≡ Some n)
    go (Some x) h = (x.number, refl)
    go None h = cc

read_group : (a s d : Option ℕ) (x y z : ℕ) → a ≡ Some x → s ≡ Some y → d ≡ Some z → (name : GroupName) × (or_bad a BadAccount (λ a. or_bad s BadSecurity (λ s. or_bad d BadSide (λ d. Ok (let n : GroupName = record { account = a; security = s; side = d } in n)))) ≡ Ok name)
read_group a s d x y z p q r = (
  record { account = x; security = y; side = z },
  ap (λ o. or_bad o BadAccount (λ a. or_bad s BadSecurity (λ s. or_bad d BadSide (λ d. Ok (let n : GroupName = record { account = a; security = s; side = d } in n))))) p
      ∙ ap (λ o. or_bad o BadSecurity (λ s. or_bad d BadSide (λ d. Ok (let n : GroupName = record { account = x; security = s; side = d } in n)))) q
      ∙ ap (λ o. or_bad o BadSide (λ d. Ok (let n : GroupName = record { account = x; security = y; side = d } in n))) r,
)

pub same_each : (k : Kind) (size : UnitSize) (unit : ℕ) → shares_in size ≡ unit → shares_to_unit k size ≡ shares_each k unit
same_each BoardLot size unit e = e
same_each OddLot size unit e = refl

heard_as : (r : Rules) (g : GroupParts) (unit q amount : ℕ) (t : Tally) (o : Option Kind) (k : Kind) (name : GroupName) → o ≡ Some k → group_in r g ≡ Ok name → total_heard r g o unit q amount t ≡ with_traded name k unit q amount t
heard_as r g unit q amount t o k name p e =
    ap (λ x. total_heard r g x unit q amount t) p
    ∙ ap (λ x. elim x [ Ok n ↦ with_traded n k unit q amount t | Err bad ↦ t ]) e

module _ (b : Book) (t : Tally) (pieces : List (List ℕ)) (S : Sound b t pieces) (a : TotalAsked) (none : first_of (total_grounds_in b a) ≡ None) (unit q amount : ℕ) (terms : a.terms ≡ total_terms unit q amount) where
  -- the total as the day keeps it, in the group of a number, and as the tally tells it
  abbrev total_at : ℕ → Total
  total_at n = record {
    group = n;
    kind = kind_of_total a;
    quantity = (terms_of_total a).quantity;
    shares = record { count = (terms_of_total a).quantity * shares_to_unit (kind_of_total a) (terms_of_total a).size };
    amount = (terms_of_total a).amount;
  }

  abbrev told_as : GroupName → Kind → Traded
  told_as name k = record { group = name; kind = k; unit = unit; shares = q * shares_each k unit; amount = amount / per_cent }

  abbrev group_named : GroupName → Group
  group_named name = record { name = name; size = (terms_of_total a).size; retained = false }

  -- the day with the total, in a group that has a number or in a new one
  abbrev book_with : Option ℕ → GroupName → Book
  book_with o name = record b { groups = cond (is_some o) b.groups (b.groups ++ group_named name ∷ []); totals = b.totals ++ total_at (unwrap_or o (length b.groups)) ∷ [] }

  abbrev tally_with : List GroupName → GroupName → Kind → Tally
  tally_with gs name k = record { groups = gs; totals = t.totals ++ told_as name k ∷ []; filings = t.filings }

  placed_total : (o : Option ℕ) (name : GroupName) (k : Kind) → name_of_total b a ≡ name → number_of name 0 b.groups ≡ o → shares_in (terms_of_total a).size ≡ unit → q * shares_each k unit ≡ (terms_of_total a).quantity * shares_to_unit (kind_of_total a) (terms_of_total a).size → amount / per_cent ≡ (terms_of_total a).amount.count → 0 < q * shares_each k unit
      → Sound (book_with o (name_of_total b a)) (with_traded name k unit q amount t) pieces
  placed_total (Some m) name k nn number size shares cents positive =
      let among : some (λ g. same_name g name) t.groups ≡ true = ap (some (λ g. same_name g name)) S.names ∙ named_among name 0 b.groups ∙ ap is_some number in
      let groups : cond (some (λ g. same_name g name) t.groups) t.groups (t.groups ++ name ∷ []) ≡ t.groups = cond-true (some (λ g. same_name g name) t.groups) t.groups (t.groups ++ name ∷ []) among in
      subst (λ gs. Sound (book_with (Some m) (name_of_total b a)) (tally_with gs name k) pieces) (sym groups)
      (total_sound_old b t pieces S name (total_at m) (told_as name k) refl shares cents m refl number)
  placed_total None name k nn number size shares cents positive =
      let among : some (λ g. same_name g name) t.groups ≡ false = ap (some (λ g. same_name g name)) S.names ∙ named_among name 0 b.groups ∙ ap is_some number in
      let groups : cond (some (λ g. same_name g name) t.groups) t.groups (t.groups ++ name ∷ []) ≡ t.groups ++ name ∷ [] = cond-false (some (λ g. same_name g name) t.groups) t.groups (t.groups ++ name ∷ []) among in
      subst (λ gs. Sound (book_with None (name_of_total b a)) (tally_with gs name k) pieces) (sym groups)
      (subst (λ n. Sound (book_with None n) (tally_with (t.groups ++ name ∷ []) name k) pieces) (sym nn)
      (total_sound_new b t pieces S name (total_at (length b.groups)) (told_as name k) refl shares cents (terms_of_total a).size refl number (sym size) positive))

  read_total : (o : Option ℕ) → number_of_total b a ≡ o → Sound (book_with o (name_of_total b a)) (total_heard b.rules a.group a.kind unit q amount t) pieces
  read_total o e =
      let u = none_all (total_grounds_in b a) none in
      let own = own_read b.rules a.group.account (not-false (is_some (own_of b.rules a.group.account)) u.1.1.0) in
      let code = some_of (security_in a.group.security) (not-false (is_some (security_in a.group.security)) u.1.1.1.0) in
      let side = some_of (side_in b.rules a.group.side) (not-false (is_some (side_in b.rules a.group.side)) u.1.1.1.1.0) in
      let kind = some_of a.kind (not-false (is_some a.kind) u.1.1.1.1.1.0) in
      let figures = some_of a.terms (not-false (is_some a.terms) u.1.1.1.1.1.1.1.1.0) in
      let named = read_group (own_account b.rules a.group.account) (security_in a.group.security) (side_in b.rules a.group.side) own.0 code.0 side.0 own.1 code.1 side.1 in
      let F = figures_told unit q amount figures.0 (sym terms ∙ figures.1) in
      let tt' : terms_of_total a ≡ figures.0 = ap (λ x. unwrap_or x (record { size = One; quantity = 0; amount = record { count = 0 } })) figures.1 in
      let kk : kind_of_total a ≡ kind.0 = ap (λ x. unwrap_or x BoardLot) kind.1 in
      let nn : name_of_total b a ≡ named.0 = ap (λ x. elim x [ Ok n ↦ n | Err bad ↦ record { account = 0; security = 0; side = 0 } ]) named.1 in
      let number : number_of named.0 0 b.groups ≡ o = sym (ap (λ x. elim x [ Ok n ↦ number_of n 0 b.groups | Err bad ↦ None ]) named.1) ∙ e in
      let size : shares_in (terms_of_total a).size ≡ unit = ap (λ x. shares_in x.size) tt' ∙ F.size in
      let each : shares_to_unit (kind_of_total a) (terms_of_total a).size ≡ shares_each kind.0 unit = ap (λ k. shares_to_unit k (terms_of_total a).size) kk ∙ same_each kind.0 (terms_of_total a).size unit size in
      let quantity : (terms_of_total a).quantity ≡ q = ap (λ x. x.quantity) tt' ∙ F.quantity in
      let shares : q * shares_each kind.0 unit ≡ (terms_of_total a).quantity * shares_to_unit (kind_of_total a) (terms_of_total a).size = ap (λ n. n * shares_each kind.0 unit) (sym quantity) ∙ ap (λ n. (terms_of_total a).quantity * n) (sym each) in
      let cents : amount / per_cent ≡ (terms_of_total a).amount.count = sym (ap (λ x. x.amount.count) tt' ∙ F.cents) in
      let positive : 0 < shares_each kind.0 unit = subst (λ n. 0 < n) each (unit_range (kind_of_total a) (terms_of_total a).size).0 in
      let more : q ≤ q * shares_each kind.0 unit = le-mul_of_pos_right q positive in
      subst (λ x. Sound (book_with o (name_of_total b a)) x pieces) (sym (heard_as b.rules a.group unit q amount t a.kind kind.0 named.0 kind.1 named.1))
      (placed_total o named.0 kind.0 nn number size shares cents (omega (arith, more, F.some_quantity)))

  pub total_step : Sound (totalled b a).book (total_heard b.rules a.group a.kind unit q amount t) pieces
  total_step = read_total (number_of_total b a) refl
