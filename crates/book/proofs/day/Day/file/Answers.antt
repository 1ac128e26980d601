use Rattle.std.proofs.Common.{length, ap, ◌∙◌}
use Rattle.octets.specs.Splice.{spliced}
use Rattle.families.specs.Parts.{FilingParts, filing_by}
use Rattle.judge.specs.Grounds.{first_of}
use Rattle.judge.proofs.Firsts.{handed}
use Rattle.book.specs.Book.{Book, Outcome}
use Rattle.book.specs.Lines.{filed_by, filed_grounds, entered}
use Rattle.book.proofs.Judged.{of_names, of_target, done}
use Rattle.book.proofs.day.Day.file.Goals as goal

pub returns-in_err-target-clause-judged : goal.returns-in_err-target-clause-judged
returns-in_err-target-clause-judged g c =
    let b : Book = c.args.self.now in
    let p : FilingParts = filing_by c.args.filing in
    handed c.from_residual.result _ c.from_residual.ensures.1
    ∙ of_names b p.heading c.args.clock (filed_grounds b (filed_by b p) (length c.args.replies.now)) c.in_err-target.ensures.judged

pub returns-in_err-accepted-clause-judged : goal.returns-in_err-accepted-clause-judged
returns-in_err-accepted-clause-judged g c =
    let b : Book = c.args.self.now in
    let p : FilingParts = filing_by c.args.filing in
    let space = length c.args.replies.now in
    let t = c.in_ok-target.target in
    let met = c.in_err-accepted.ensures.judged ∙ (λ j. first_of (filed_grounds b (c.filed-filed.ensures j) space t)) in
    handed c.from_residual-in_err-accepted.result _ c.from_residual-in_err-accepted.ensures.1
    ∙ of_target b p.heading c.args.clock (filed_grounds b (filed_by b p) space) t c.in_ok-target.ensures.target c.in_ok-target.ensures.judged met

pub returns-clause-came : goal.returns-clause-came
returns-clause-came g c =
    let b : Book = c.args.self.now in
    let p : FilingParts = filing_by c.args.filing in
    let line = c.args.line.now in
    let t = c.in_ok-target.target in
    let is = ap (λ f. entered b line f t) c.filed-filed.ensures ∙ done b line p.heading t (entered b line (filed_by b p)) c.in_ok-target.ensures.target in (
      c.enter_filing.ensures.answer ∙ ap (λ (o : Outcome). o.answer) is,
      (
        c.enter_filing.ensures.after ∙ ap (λ (o : Outcome). o.book) is,
        c.enter_filing.ensures.memory ∙ ap (λ (o : Outcome). spliced c.args.replies.now 0 o.replies) is,
      ),
    )
