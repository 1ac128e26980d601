use Rattle.std.proofs.Common.{sym, ◌∙◌, arith}
use Rattle.book.proofs.Asking.{row-written}
use Rattle.book.proofs.day.Day.row.Goals as goal

pub returns-clause-memory : goal.returns-clause-memory
returns-clause-memory g c =
    row-written _ c.args.self.now c.args.i c.in-Some.entry c.args.buffer.now c.put_form.new.buf c.heading-heading.result c.from.result _ c.self.view_is (sym c.read-read.ensures ∙ c.in-Some.is) (omega arith) c.from.ensures c.heading-heading.ensures (omega arith) c.put_form.ensures.memory
