use Rattle.std.proofs.Common.{sym, arith}
use Rattle.std.proofs.lemmas.Option.{slice_get_within}
use Rattle.ledger.proofs.Asking.{step-comes, step-ends}
use Rattle.blocks.specs.Filled.{rows}
use Rattle.blocks.proofs.Holding.{length-rows_in}
use Rattle.blocks.proofs.filled.calls.BlocksLedger.step.Goals as goal

pub overflow_add-result : goal.overflow_add-result
overflow_add-result c =
    let t = c.args.self.now in
    let within = slice_get_within (rows t) c.args.place c.in-Some.entry (sym c.in-Some.ensures) in
    omega (arith, within, t.fits, t.few, length-rows_in t.len t.bytes.now)

pub returns-in-Some : goal.returns-in-Some
returns-in-Some c = step-comes (rows c.args.self.now) c.args.place c.in-Some.entry (sym c.in-Some.ensures)

pub returns-in-None : goal.returns-in-None
returns-in-None c = step-ends (rows c.args.self.now) c.args.place (sym c.in-None.ensures)
