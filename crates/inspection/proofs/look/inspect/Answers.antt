use Rattle.std.proofs.Common.{◌≡◌, ℕ, ◌+◌, ◌-◌, List, sym, ap, ◌∙◌, subst, arith}
use Rattle.blocks.specs.Image.{blocks_in}
use Rattle.inspection.specs.declared.faults.Found.{Found}
use Rattle.inspection.specs.Laws.{FindsAll, FindsOnly}
use Rattle.inspection.specs.Sound.{leads, found}
use Rattle.inspection.proofs.AllBlocks.{finds-all, finds-only}
use Rattle.inspection.proofs.Leading.{fault-some, stops, goes_on, few}
use Rattle.inspection.proofs.Spelling.{Bytes}
use Rattle.inspection.proofs.look.inspect.Goals as goal

all-of : (bytes : List ℕ) (r : Found) → r ≡ found bytes → FindsAll bytes r
all-of bytes r e = subst (FindsAll bytes) (sym e) (finds-all bytes)

only-of : (bytes : List ℕ) (r : Found) → r ≡ found bytes → Bytes bytes → FindsOnly bytes r
only-of bytes r e byte = subst (FindsOnly bytes) (sym e) (finds-only bytes byte)

pub loop-block-preserved : goal.loop-block-preserved
loop-block-preserved c =
    let bytes = c.args.bytes.now in
    let n = blocks_in bytes in
    let front = c.loop-block.front in
    let k = front.blocks in
    let here = few n k c.loop-block.block-index front.entries bytes _ _ c.blocks_of-block-items.ensures.value (omega arith) c.loop-block.invariant.0 c.check_block.ensures (fault-some c.check_block.result ∙ sym c.if-is_err.ensures.value) in
    let on = goes_on n k c.loop-block.block-index front.entries bytes _ _ c.blocks_of-block-items.ensures.value (omega arith) c.loop-block.invariant.0 c.check_block.ensures (fault-some c.check_block.result ∙ sym c.if-is_err.ensures.value) in (
      omega arith,
      ap (λ h. leads (n - (k + 1)) (k + 1) (front.entries + h) bytes) c.count_in.ensures ∙ sym on ∙ c.loop-block.invariant.1,
      omega arith,
    )

pub returns-after-loop-block : goal.returns-after-loop-block
returns-after-loop-block c =
    let bytes = c.args.bytes.now in
    let r = c.loop-block.front in
    let none : blocks_in bytes - r.blocks ≡ 0 = omega arith in
    let value : r ≡ found bytes = ap (λ m. leads m r.blocks r.entries bytes) (sym none) ∙ c.loop-block.invariant.1 in
    record { value = value; all = all-of bytes r value; only = only-of bytes r value (λ i. omega (arith, c.type_inv.bytes i)) }

pub returns-then-is_err : goal.returns-then-is_err
returns-then-is_err c =
    let bytes = c.args.bytes.now in
    let r = c.loop-block.front in
    let stop = stops (blocks_in bytes) r.blocks c.loop-block.block-index r.entries bytes _ _ c.blocks_of-block-items.ensures.value (omega arith) c.loop-block.invariant.0 c.check_block.ensures (fault-some c.check_block.result ∙ sym c.if-is_err.ensures.value) in
    let value : r ≡ found bytes = sym stop ∙ c.loop-block.invariant.1 in
    record { value = value; all = all-of bytes r value; only = only-of bytes r value (λ i. omega (arith, c.type_inv.bytes i)) }
