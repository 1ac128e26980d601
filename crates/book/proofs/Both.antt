-- A group's two kinds together: what its rows hold, what is filed in it, and how it stands.
use Rattle.std.proofs.Common.{◌≡◌, ℕ, ◌+◌, ◌-◌, ◌≤◌, Bool, true, false, cond, not, ◌&&◌, eqb, List, sum_by, refl, sym, ap, ◌∙◌, arith}
use Rattle.std.proofs.lemmas.Bool.{eq-eqb, ne_eqb, eqb-true}
use Rattle.lots.specs.Units.{kind_number, shares_in}
use Rattle.lots.specs.declared.units.Kind.{Kind}
use Rattle.lots.specs.declared.units.Kind.TheVariants.{BoardLot, OddLot}
use Rattle.lots.specs.declared.units.UnitSize.{UnitSize}
use Rattle.ledger.specs.declared.row.Entry.{Entry}
use Rattle.forms.specs.declared.contents.GroupName.{GroupName}
use Rattle.groups.specs.Groups.{same_name}
use Rattle.groups.specs.declared.kept.Group.{Group}
use Rattle.groups.specs.declared.kept.Total.{Total}
use Rattle.lines.specs.Open.{held_shares, held_worth, standing_at, unfinished}
use Rattle.lines.specs.declared.open.State.TheVariants.{Unfinished, Complete, Retained}
use Rattle.book.specs.Tally.{Tally, Filed, filed_shares, filed_amount, traded_shares, traded_amount, is_of, differs}
use Rattle.book.proofs.Sums.{all_of, sum_by-same, sum_by-plus}
use Rattle.book.proofs.Rows.{shares-sum, worth-sum}
use Rattle.book.proofs.Sound.{Known, Kept, shares_both, worth_both}

pub held-both : (n : ℕ) (size : UnitSize) (rows : List Entry) → held_shares n size rows ≡ shares_both n size rows
held-both n size rows =
    let a = shares-sum n 0 (shares_in size) rows in
    let b = shares-sum n 2 1 rows in
    omega arith

pub worth-both : (n : ℕ) (size : UnitSize) (rows : List Entry) → held_worth n size rows ≡ worth_both n size rows
worth-both n size rows =
    let a = worth-sum n 0 (shares_in size) rows in
    let b = worth-sum n 2 1 rows in
    omega arith

split_kind : (c : Bool) (k : Kind) (m : ℕ) → cond c m 0 ≡ cond (c && eqb (kind_number k) 0) m 0 + cond (c && eqb (kind_number k) 2) m 0
split_kind true BoardLot m = omega arith
split_kind true OddLot m = omega arith
split_kind false k m = omega arith

pub filed-both : (name : GroupName) (w : Filed → ℕ) (fs : List Filed) → sum_by (λ f. cond (same_name f.group name) (w f) 0) fs ≡ sum_by (λ f. cond (is_of name BoardLot f) (w f) 0) fs + sum_by (λ f. cond (is_of name OddLot f) (w f) 0) fs
filed-both name w fs = sum_by-same _ _ fs (all_of _ (λ f. split_kind (same_name f.group name) f.kind (w f)) fs) ∙ sum_by-plus _ _ fs

-- what is filed in a group is what its rows hold
module _ (rows : List Entry) (t : Tally) (n : ℕ) (g : Group) (k : Kept rows t.totals t.filings n g) where
  pub filed_is_held : filed_shares g.name t.filings ≡ shares_both n g.size rows
  filed_is_held =
      let a = k.filed_shares BoardLot in
      let b = k.filed_shares OddLot in
      let c = filed-both g.name (λ f. f.shares) t.filings in
      omega arith

  pub amount_is_held : filed_amount g.name t.filings ≡ worth_both n g.size rows
  amount_is_held =
      let a = k.filed_amount BoardLot in
      let b = k.filed_amount OddLot in
      let c = filed-both g.name (λ f. f.amount) t.filings in
      omega arith

-- nothing is left where as much is held as was traded
same_nought : (a b : ℕ) → b ≤ a → eqb (a - b) 0 ≡ eqb a b
same_nought a b h = go (eqb a b) refl
  where
    go : (c : Bool) → eqb a b ≡ c → eqb (a - b) 0 ≡ c
    go true e =
        let p = eqb-true a b e in
        eq-eqb (a - b) 0 (omega (arith, p))
    go false e = ne_eqb (a - b) 0 (λ q.
        let r : a ≡ b = omega (arith, q, h) in
        let s = eq-eqb a b r in
        cc)

not_done : (retained done : Bool) → retained ≡ false → elim (cond retained Retained (cond done Complete Unfinished)) [ Unfinished ↦ true | Complete ↦ false | Retained ↦ false ] ≡ not done
not_done true done e = cc
not_done false true e = refl
not_done false false e = refl

-- an unretained group is unfinished exactly where its totals and filings differ
pub unfinished-differs : (totals : List Total) (rows : List Entry) (t : Tally) (n : ℕ) (g : Group) → Known totals t.totals n g → Kept rows t.totals t.filings n g → g.retained ≡ false → unfinished (standing_at totals rows n g) ≡ differs t g.name
unfinished-differs totals rows t n g o k e =
    let s = standing_at totals rows n g in
    let a : s.open_shares.count ≡ traded_shares g.name t.totals - shares_both n g.size rows = ap (λ x. x - held_shares n g.size rows) (sym o.shares) ∙ ap (λ x. traded_shares g.name t.totals - x) (held-both n g.size rows) in
    let b : s.open_amount.count ≡ traded_amount g.name t.totals - worth_both n g.size rows = ap (λ x. x - held_worth n g.size rows) (sym o.amount) ∙ ap (λ x. traded_amount g.name t.totals - x) (worth-both n g.size rows) in
    let p : eqb s.open_shares.count 0 ≡ eqb (traded_shares g.name t.totals) (filed_shares g.name t.filings) = ap (λ x. eqb x 0) a ∙ same_nought (traded_shares g.name t.totals) (shares_both n g.size rows) k.held_shares ∙ ap (eqb (traded_shares g.name t.totals)) (sym (filed_is_held rows t n g k)) in
    let q : eqb s.open_amount.count 0 ≡ eqb (traded_amount g.name t.totals) (filed_amount g.name t.filings) = ap (λ x. eqb x 0) b ∙ same_nought (traded_amount g.name t.totals) (worth_both n g.size rows) k.held_amount ∙ ap (eqb (traded_amount g.name t.totals)) (sym (amount_is_held rows t n g k)) in
    not_done g.retained (eqb s.open_shares.count 0 && eqb s.open_amount.count 0) e
    ∙ ap (λ x. not (x && eqb s.open_amount.count 0)) p
    ∙ ap (λ x. not (eqb (traded_shares g.name t.totals) (filed_shares g.name t.filings) && x)) q
