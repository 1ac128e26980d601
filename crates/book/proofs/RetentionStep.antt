-- A retention to which no ground applies keeps what every run keeps.
use Rattle.std.proofs.Common.{◌≡◌, ℕ, zero, suc, Bool, true, false, cond, not, ◌&&◌, eqb, List, [], ◌∷◌, filter, is_some, Some, None, Option, unwrap_or, refl, sym, ap, subst, ◌∙◌}
use Rattle.std.specs.List.{slice_get}
use Rattle.std.proofs.lemmas.Bool.{not-false, or_parts}
use Rattle.octets.specs.Options.{and_then}
use Rattle.families.specs.Accounts.{account_of, own_of, stem_of, is_own}
use Rattle.families.specs.Parts.{RetentionParts}
use Rattle.families.specs.declared.accounts.OwnAccount.{OwnAccount}
use Rattle.families.specs.declared.family.Rules.{Rules}
use Rattle.groups.specs.Groups.{some, retained_of, sealed_by}
use Rattle.groups.specs.declared.kept.Group.{Group}
use Rattle.judge.specs.Grounds.{first_of}
use Rattle.judge.specs.Heading.{retention_grounds}
use Rattle.judge.proofs.Firsts.{none_all, none-append}
use Rattle.lines.specs.Open.{standing_at, unfinished}
use Rattle.lines.specs.Taking.{taken_at, marked, rows_left}
use Rattle.book.specs.Book.{Book}
use Rattle.book.specs.Lines.{retention_grounds_in, retained_in, taken_of, taking_grounds}
use Rattle.book.specs.Tally.{Tally, is_struck, differs, retention_heard}
use Rattle.book.proofs.Both.{unfinished-differs}
use Rattle.book.proofs.Retaining.{retention_sound}
use Rattle.book.proofs.Sound.{Sound}

-- no group of an account that is not sealed is retained
pub none_at : {A : Type 0} (test : A → Bool) (xs : List A) (n : ℕ) (x : A) → some test xs ≡ false → slice_get xs n ≡ Some x → test x ≡ false
none_at test [] n x h p = cc
none_at test (y ∷ ys) zero x h p =
    let q : y ≡ x = cc in
    subst (λ z. test z ≡ false) q (or_parts (test y) (some test ys) h).0
none_at test (y ∷ ys) (suc n) x h p = none_at test ys n x (or_parts (test y) (some test ys) h).1 p

own_number : (r : Rules) (a : List ℕ) → is_some (own_of r a) ≡ true → (n : ℕ) × (account_of a ≡ Some n)
own_number r a h = go (account_of a) refl
  where
    go : (o : Option ℕ) → account_of a ≡ o → (n : ℕ) × (account_of a ≡ Some n)
    go (Some n) e = (n, e)
    go None e =
        let q : own_of r a ≡ None = ap (λ o. and_then o (λ n. and_then (stem_of a) (λ s. cond (is_own r s) (Some (let x : OwnAccount = record { number = n; stem = s } in x)) None))) e in
        let f : is_some (own_of r a) ≡ false = ap is_some q in
        cc

module _ (b : Book) (t : Tally) (pieces : List (List ℕ)) (S : Sound b t pieces) (account : ℕ) (unsealed : sealed_by account b.groups ≡ false) where
  taken-differs : (n : ℕ) (g : Group) → slice_get b.groups n ≡ Some g → taken_at b.groups b.totals b.rows account n ≡ (eqb g.name.account account && differs t g.name)
  taken-differs n g p =
      ap (λ o. elim o [ Some x ↦ eqb x.name.account account && unfinished (standing_at b.totals b.rows n x) | None ↦ false ]) p
      ∙ go (eqb g.name.account account) refl
    where
      not_kept : (c : Bool) → (c && true) ≡ false → c ≡ false
      not_kept true h = cc
      not_kept false h = refl

      go : (c : Bool) → eqb g.name.account account ≡ c → (c && unfinished (standing_at b.totals b.rows n g)) ≡ (c && differs t g.name)
      go true e =
          let r = none_at (retained_of account) b.groups n g unsealed p in
          let q : g.retained ≡ false = not_kept g.retained (ap (λ x. g.retained && x) (sym e) ∙ r) in
          unfinished-differs b.totals b.rows t n g (S.known n g p) (S.kept n g p) q
      go false e = refl

  pub retained_account : Sound (record b { groups = marked (taken_at b.groups b.totals b.rows account) 0 b.groups; rows = rows_left (taken_at b.groups b.totals b.rows account) b.rows }) (record t { filings = filter (λ f. not (is_struck account t f)) t.filings }) pieces
  retained_account = retention_sound b t pieces S account (taken_at b.groups b.totals b.rows account) taken-differs

pub retention_step : (b : Book) (t : Tally) (pieces : List (List ℕ)) → Sound b t pieces → (p : RetentionParts) (clock space : ℕ) → first_of (retention_grounds_in b p clock space) ≡ None → Sound (retained_in b p).book (retention_heard p t) pieces
retention_step b t pieces S p clock space none =
    let h = none-append (retention_grounds b.opened b.rules b.groups p clock) (taking_grounds b (taken_of b p) space) none in
    let u = none_all (retention_grounds b.opened b.rules b.groups p clock) h.0 in
    let account = own_number b.rules p.account (not-false (is_some (own_of b.rules p.account)) u.1.1.0) in
    let unsealed : sealed_by account.0 b.groups ≡ false = sym (ap (λ o. elim o [ Some n ↦ sealed_by n b.groups | None ↦ false ]) account.1) ∙ u.1.1.1.1.1.0 in
    let heard : retention_heard p t ≡ record t { filings = filter (λ f. not (is_struck account.0 t f)) t.filings } = ap (λ o. elim o [ Some n ↦ record t { filings = filter (λ f. not (is_struck n t f)) t.filings } | None ↦ t ]) account.1 in
    let at : unwrap_or (account_of p.account) 0 ≡ account.0 = ap (λ o. unwrap_or o 0) account.1 in
    subst (λ x. Sound (retained_in b p).book x pieces) (sym heard)
    (subst (λ n. Sound (record b { groups = marked (taken_at b.groups b.totals b.rows n) 0 b.groups; rows = rows_left (taken_at b.groups b.totals b.rows n) b.rows }) (record t { filings = filter (λ f. not (is_struck account.0 t f)) t.filings }) pieces) (sym at)
    (retained_account b t pieces S account.0 unsealed))
