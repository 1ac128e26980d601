use Rattle.std.proofs.Common.{sym, ap, ◌∙◌, arith}
use Rattle.std.proofs.lemmas.Option.{slice_get_past}
use Rattle.std.specs.List.{slice_get}
use Rattle.blocks.specs.Image.{rows_in}
use Rattle.blocks.proofs.Holding.{length-rows_in, nth-rows_in}
use Rattle.inspection.specs.Sound.{found}
use Rattle.inspection.proofs.AllBlocks.{finds-all, found-within}
use Rattle.inspection.proofs.look.read_entry.Goals as goal

pub entry_at-requires : goal.entry_at-requires
entry_at-requires c =
    let held = ap (λ f. f.entries) c.inspect.ensures.value in
    let room = found-within c.args.bytes.now c.args.i (λ i. omega (arith, c.type_inv.bytes i)) (omega arith) in
    omega arith

pub returns-then-i-inspect : goal.returns-then-i-inspect
returns-then-i-inspect c =
    let bytes = c.args.bytes.now in
    let held = ap (λ f. f.entries) c.inspect.ensures.value in
    let value = sym (nth-rows_in _ c.args.i bytes c.entry_at.result (omega (arith, c.if-i-inspect.true)) c.entry_at.ensures) in
    record { value = value; round = λ rows is. value ∙ ap (λ l. slice_get l c.args.i) (finds-all bytes rows is).1 }

pub returns-else-i-inspect : goal.returns-else-i-inspect
returns-else-i-inspect c =
    let bytes = c.args.bytes.now in
    let held = ap (λ f. f.entries) c.inspect.ensures.value in
    let long = length-rows_in (found bytes).entries bytes in
    let value = sym (slice_get_past (rows_in (found bytes).entries bytes) c.args.i (omega (arith, c.if-i-inspect.false))) in
    record { value = value; round = λ rows is. value ∙ ap (λ l. slice_get l c.args.i) (finds-all bytes rows is).1 }
