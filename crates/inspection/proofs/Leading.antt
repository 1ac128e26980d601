-- One block more of those that lead. Assumes nothing.
use Rattle.std.proofs.Common.{◌≡◌, ℕ, suc, ◌+◌, ◌-◌, ◌<◌, ◌≤◌, true, false, List, [], get_or, is_some, Some, None, Option, Result, Ok, Err, sym, refl, ap, ◌∙◌, arith}
use Rattle.std.specs.Result.{result_err, is_err}
use Rattle.std.specs.Simd.{first_chunks}
use Rattle.blocks.specs.Image.{block_at}
use Rattle.inspection.specs.declared.faults.Fault.{Fault}
use Rattle.inspection.specs.declared.faults.Found.{Found}
use Rattle.inspection.specs.Sound.{count_in, fault_in, leads}
use Rattle.inspection.proofs.Cutting.{one-block}
use Rattle.inspection.proofs.OneBlock.{passes-from, few-from}

-- the answer from block k on, by whether that block has a fault
abbrev pub onward : Option Fault → ℕ → ℕ → ℕ → List ℕ → Found
onward fault f k held bytes =
    elim fault [
      | None ↦ leads f (k + 1) (held + count_in (block_at k bytes)) bytes
      | Some _ ↦ record { blocks = k; entries = held }
    ]

-- a test that is failed has a fault
pub fault-some : {T E : Type 0} (r : Result T E) → is_some (result_err r) ≡ is_err r
fault-some (Ok x) = refl
fault-some (Err e) = refl

at-fault : (o : Option Fault) (f k held : ℕ) (bytes : List ℕ) → is_some o ≡ true → onward o f k held bytes ≡ record { blocks = k; entries = held }
at-fault (Some x) f k held bytes e = refl
at-fault None f k held bytes e = let z : ◌≡◌ {A = ℕ} 0 1 = cc in absurd (omega arith)

none-from : (o : Option Fault) → is_some o ≡ false → o ≡ None
none-from None e = refl
none-from (Some x) e = cc

no-fault : (o : Option Fault) (f k held : ℕ) (bytes : List ℕ) → is_some o ≡ false → onward o f k held bytes ≡ leads f (k + 1) (held + count_in (block_at k bytes)) bytes
no-fault None f k held bytes e = refl
no-fault (Some x) f k held bytes e = let z : ◌≡◌ {A = ℕ} 0 1 = cc in absurd (omega arith)

-- block k, the j-th that the code comes to, and what it was told of it
module _ (n k j held : ℕ) (bytes : List ℕ) (items : List (List ℕ)) (o : Option Fault) (are : items ≡ first_chunks 512 n bytes) (lt : j < n) (same : k ≡ j) (told : o ≡ fault_in k held (get_or items j [])) where
  more : leads (n - k) k held bytes ≡ onward o (n - (k + 1)) k held bytes
  more =
      let e : n - k ≡ suc (n - (k + 1)) = omega arith in
      ap (λ z. leads z k held bytes) e ∙ ap (λ x. onward x (n - (k + 1)) k held bytes) (sym (told ∙ ap (fault_in k held) (one-block n k j bytes items are lt same)))

  pub stops : is_some o ≡ true → leads (n - k) k held bytes ≡ record { blocks = k; entries = held }
  stops some = more ∙ at-fault o (n - (k + 1)) k held bytes some

  pub goes_on : is_some o ≡ false → leads (n - k) k held bytes ≡ leads (n - (k + 1)) (k + 1) (held + count_in (get_or items j [])) bytes
  goes_on none =
      more ∙ no-fault o (n - (k + 1)) k held bytes none ∙
      ap (λ p. leads (n - (k + 1)) (k + 1) (held + count_in p) bytes) (sym (one-block n k j bytes items are lt same))

  pub few : is_some o ≡ false → count_in (get_or items j []) ≤ 7
  few none = few-from k held (get_or items j []) (passes-from k held (get_or items j []) (sym told ∙ none-from o none))
