use Rattle.std.proofs.Common.{◌∙◌}
use Rattle.judge.specs.Grounds.{first_of}
use Rattle.judge.specs.Totals.{TotalAsked, asked_by, total_grounds, placed_grounds}
use Rattle.book.specs.Book.{Book}
use Rattle.judge.proofs.Firsts.{here, later, handed}
use Rattle.book.proofs.Judging.{figure_grounds, place_grounds}
use Rattle.book.proofs.day.Day.judge_asked.Goals as goal

pub returns-in_err-judge_total : goal.returns-in_err-judge_total
returns-in_err-judge_total g c =
    let b : Book = c.args.self.now in
    let a : TotalAsked = asked_by c.args.asked in
    let d = c.basis.ensures in
    let figures = c.in_err-judge_total.ensures ∙ (λ j. first_of (total_grounds (d.opened j) (d.rules j) (d.groups j) a)) in
    handed c.from_residual.result _ c.from_residual.ensures.1 ∙ here (figure_grounds b a) (place_grounds b a) figures

pub returns : goal.returns
returns g c =
    let b : Book = c.args.self.now in
    let a : TotalAsked = asked_by c.args.asked in
    let d = c.basis.ensures in
    let day = c.self.view_is in
    let figures = c.in_ok-judge_total.ensures ∙ (λ j. first_of (total_grounds (d.opened j) (d.rules j) (d.groups j) a)) in
    let placed = c.judge_placed.ensures ∙ (λ j. first_of (placed_grounds (day j).groups (day j).totals (c.number_for.ensures j) (c.kind_for.ensures j) (c.terms_for.ensures j))) in
    later (figure_grounds b a) (place_grounds b a) figures placed
