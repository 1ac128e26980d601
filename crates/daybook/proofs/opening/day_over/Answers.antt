use Rattle.std.proofs.Common.{None, ap, ◌∙◌}
use Rattle.book.specs.Book.{Book, opened_book, records_by}
use Rattle.book.proofs.Kept.{after_run}
use Rattle.daybook.specs.Asked.{calls_of}
use Rattle.daybook.proofs.opening.day_over.Goals as goal

pub returns-clause-room : goal.returns-clause-room
returns-clause-room g c =
    let inner = c.in-Ok.indexed.ledger in
    let o = c.args.opening.now in
    let b : Book = opened_book g.F.Family.allows (records_by g.F.Family.layout g.F.Family.extent) (g.L.Ledger.room inner) (g.L.Ledger.lent inner) c.as_slice.result.now o.date o.first in
    ap g.L.Ledger.room c.close-2.ensures ∙ c.close.ensures.room ∙ ap (λ (v : Book). v.capacity) c.in_ok-day.ensures.after ∙ (after_run b (calls_of b None c.args.script.now.lines)).room ∙ c.in-Ok.ensures.room

pub returns-clause-lent : goal.returns-clause-lent
returns-clause-lent g c =
    let inner = c.in-Ok.indexed.ledger in
    let o = c.args.opening.now in
    let b : Book = opened_book g.F.Family.allows (records_by g.F.Family.layout g.F.Family.extent) (g.L.Ledger.room inner) (g.L.Ledger.lent inner) c.as_slice.result.now o.date o.first in
    ap g.L.Ledger.lent c.close-2.ensures ∙ c.close.ensures.lent ∙ ap (λ (v : Book). v.lent) c.in_ok-day.ensures.after ∙ (after_run b (calls_of b None c.args.script.now.lines)).lent ∙ c.in-Ok.ensures.lent
