use Rattle.std.proofs.Common.{length, ap, ◌∙◌}
use Rattle.octets.specs.Splice.{spliced}
use Rattle.layout.specs.Layouts.{record_of}
use Rattle.forms.specs.Replies.{repeat_says}
use Rattle.book.specs.Book.{Book, Outcome}
use Rattle.book.specs.Lines.{line_said}
use Rattle.book.proofs.Kept.{came_kept}
use Rattle.book.proofs.Refusing.{refused_line}
use Rattle.book.proofs.day.Day.line.Goals as goal

pub returns-in-Err-clause-after : goal.returns-in-Err-clause-after
returns-in-Err-clause-after g c =
    let is = refused_line c.args.self.now c.args.line.now c.args.clock (length c.args.replies.now) c.line_length.result c.reply_length.result _ c.line_length.ensures c.reply_length.ensures c.in_ok-ensure.ensures c.in_ok-ensure-2.ensures c.in-Err.ensures.answer in
    c.in-Err.ensures.came.0 ∙ ap (λ (o : Outcome). o.book) is

pub returns-in-Err-clause-memory : goal.returns-in-Err-clause-memory
returns-in-Err-clause-memory g c =
    let is = refused_line c.args.self.now c.args.line.now c.args.clock (length c.args.replies.now) c.line_length.result c.reply_length.result _ c.line_length.ensures c.reply_length.ensures c.in_ok-ensure.ensures c.in_ok-ensure-2.ensures c.in-Err.ensures.answer in
    let came = c.in-Err.ensures.came in
    c.put_repeat.ensures
    ∙ (λ j. spliced (came.1 j) 0 (record_of (repeat_says c.args.line.now (c.from.ensures j)) (came.0 j).records.reply))
    ∙ ap (λ (o : Outcome). spliced c.args.replies.now 0 o.replies) is

pub returns-in_default-clause-kept : goal.returns-in_default-clause-kept
returns-in_default-clause-kept g c =
    let b : Book = c.args.self.now in
    let line = c.args.line.now in
    (came_kept b line c.take_line-answer.result (line_said b line) c.args.clock (length c.args.replies.now) c.take_line-answer.new.self _ _ c.take_line-answer.ensures.came).lent
