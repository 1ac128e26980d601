-- What is read of a group's parts.
use Rattle.std.proofs.Common.{◌≡◌, ℕ, Bool, true, false, cond, List, Some, None, Option, option_map, Ok, Result, refl, ◌∙◌, subst, arith}
use Rattle.octets.specs.Options.{and_then}
use Rattle.families.specs.Accounts.{account_of, stem_of, is_own}
use Rattle.families.specs.Parts.{GroupParts}
use Rattle.families.specs.declared.accounts.OwnAccount.{OwnAccount}
use Rattle.families.specs.declared.accounts.Stem.{Stem}
use Rattle.families.specs.declared.family.Rules.{Rules}
use Rattle.forms.specs.Totals.{security_in, side_in, own_account, group_in, or_bad}
use Rattle.forms.specs.declared.contents.GroupName.{GroupName}
use Rattle.forms.specs.declared.totals.BadField.{BadField}
use Rattle.forms.specs.declared.totals.BadField.TheVariants.{Account as BadAccount, Security as BadSecurity, Side as BadSide}

-- what was read of a group, and what the reading went on to
or_ok : {A B P : Type 0} (o : Option A) (bad : BadField) (f : A → Result B BadField) (y : B) → or_bad o bad f ≡ Ok y → ((x : A) → o ≡ Some x → f x ≡ Ok y → P) → P
or_ok (Some x) bad f y h k = k x refl h
or_ok None bad f y h k = grind arith

-- the parts of what a group is named by
pub record GroupRead (r : Rules) (g : GroupParts) (name : GroupName) : Type 0 where
  pub account_read : account_of g.account ≡ Some name.account
  pub security_read : security_in g.security ≡ Some name.security
  pub side_read : side_in r g.side ≡ Some name.side

-- an account of the family's own is a number of seven digits
own_read : (r : Rules) (a : List ℕ) (n : ℕ) → own_account r a ≡ Some n → account_of a ≡ Some n
own_read r a n h = go (account_of a) refl (stem_of a) h
  where
    go : (o : Option ℕ) → account_of a ≡ o → (s : Option Stem) → option_map (λ (x : OwnAccount). x.number) (and_then o (λ m. and_then s (λ t. cond (is_own r t) (Some (record { number = m; stem = t })) None))) ≡ Some n → account_of a ≡ Some n
    go None e s k = grind arith
    go (Some m) e None k = grind arith
    go (Some m) e (Some t) k = told (is_own r t) k
      where
        told : (c : Bool) → option_map (λ (x : OwnAccount). x.number) (cond c (Some (record { number = m; stem = t })) None) ≡ Some n → account_of a ≡ Some n
        told true k = e ∙ k
        told false k = grind arith

pub group_read : (r : Rules) (g : GroupParts) (name : GroupName) → group_in r g ≡ Ok name → GroupRead r g name
group_read r g name h =
    or_ok (own_account r g.account) BadAccount _ name h (λ a ha h1.
    or_ok (security_in g.security) BadSecurity _ name h1 (λ s hs h2.
    or_ok (side_in r g.side) BadSide _ name h2 (λ d hd h3.
    let x : GroupName = record { account = a; security = s; side = d } in
    let e : x ≡ name = cc in
    let parts : GroupRead r g x = record { account_read = own_read r g.account a ha; security_read = hs; side_read = hd } in
    subst (GroupRead r g) e parts)))
