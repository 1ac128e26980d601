-- Rows of totals, and what names a group. Assumes nothing.
use Rattle.std.specs.Prelude.{ℕ, cond, not, ◌&&◌, List, length, Some, None, Ok, Err, codes, Option, Result, ◌==◌}
use Rattle.std.specs.Option.{option_map}
use Rattle.std.specs.Str.{bytes_eq}
use Rattle.octets.specs.Digits.{number_in}
use Rattle.octets.specs.Texts.{is_security, packed}
use Rattle.lots.specs.declared.units.Kind.{Kind}
use Rattle.lots.specs.declared.units.Kind.TheVariants.{BoardLot, OddLot}
use Rattle.layout.specs.Layouts.{told}
use Rattle.layout.specs.declared.field.Item.TheVariants.{Kind as KindItem, Quantity, Amount}
use Rattle.families.specs.Accounts.{own_of}
use Rattle.families.specs.Parts.{GroupParts, group_told}
use Rattle.families.specs.Tables.{total_row}
use Rattle.families.specs.declared.family.Rules.{Rules}
use Rattle.forms.specs.declared.contents.GroupName.{GroupName}
use Rattle.forms.specs.declared.totals.BadField.{BadField}
use Rattle.forms.specs.declared.totals.BadField.TheVariants.{Length as BadLength, Account as BadAccount, Security as BadSecurity, Side as BadSide, Kind as BadKind, Quantity as BadQuantity, Amount as BadAmount}
use Rattle.forms.specs.declared.totals.TotalRow.{TotalRow}

abbrev pub kind_in : List ℕ → Option Kind
kind_in bs = cond (bytes_eq bs (codes "0")) (Some BoardLot) (cond (bytes_eq bs (codes "2")) (Some OddLot) None)

-- B, and S where the family sells
abbrev pub side_in : Rules → List ℕ → Option ℕ
side_in r bs = cond (bytes_eq bs (codes "B")) (Some 66) (cond (r.sells && bytes_eq bs (codes "S")) (Some 83) None)

-- a security code, but not the one that stands for a retention
abbrev pub security_in : List ℕ → Option ℕ
security_in bs = cond (is_security bs && not (bytes_eq bs (codes "ZZZZZZ"))) (Some (packed bs)) None

-- what was read, or else the field that could not be; `told` of preview is the like for words, and neither crate stands on the other
abbrev pub or_bad : {A B : Type 0} → Option A → BadField → (A → Result B BadField) → Result B BadField
or_bad (Some x) bad f = f x
or_bad None bad f = Err bad

-- an account with a stem of the family, by its number
abbrev pub own_account : Rules → List ℕ → Option ℕ
own_account r a = option_map (λ o. o.number) (own_of r a)

abbrev pub group_in : Rules → GroupParts → Result GroupName BadField
group_in r g =
    or_bad (own_account r g.account) BadAccount (λ a.
    or_bad (security_in g.security) BadSecurity (λ s.
    or_bad (side_in r g.side) BadSide (λ d.
    Ok (record { account = a; security = s; side = d }))))

abbrev pub then_group : {B : Type 0} → Result GroupName BadField → (GroupName → Result B BadField) → Result B BadField
then_group (Ok g) f = f g
then_group (Err e) f = Err e

-- a row of 80 bytes
abbrev pub total_in : Rules → List ℕ → Result TotalRow BadField
total_in r row =
    cond (length row == 80)
    (then_group (group_in r (group_told total_row row)) (λ g.
    or_bad (kind_in (told total_row KindItem row)) BadKind (λ k.
    or_bad (number_in (told total_row Quantity row)) BadQuantity (λ q.
    or_bad (number_in (told total_row Amount row)) BadAmount (λ m.
    Ok (record { group = g; kind = k; quantity = q; amount = m }))))))
    (Err BadLength)
