use Rattle.std.proofs.Common.{◌≡◌, length, ap, ◌∙◌}
use Rattle.judge.specs.Grounds.{first_of}
use Rattle.judge.specs.Terms.{terms_grounds, wanted_of}
use Rattle.judge.proofs.Firsts.{handed}
use Rattle.lines.specs.Entries.{entering_of}
use Rattle.lines.specs.Open.{survey_at}
use Rattle.lines.specs.Room.{order_grounds, room_grounds}
use Rattle.book.specs.Book.{Book}
use Rattle.book.specs.Lines.{completes, standing_of, wanted_by}
use Rattle.book.proofs.Judged.{of_order, of_terms, of_room}
use Rattle.book.proofs.day.Day.judge_filed.Goals as goal

pub returns-in_err-judge_order-clause-judged : goal.returns-in_err-judge_order-clause-judged
returns-in_err-judge_order-clause-judged g c =
    let f = c.args.filed in
    handed c.from_residual.result _ c.from_residual.ensures.1
    ∙ of_order c.args.self.now f c.args.space c.args.target (c.in_err-judge_order.ensures ∙ (λ j. first_of (order_grounds (c.self.view_is j).rows f.common.order)))

pub returns-in_err-wanted-clause-judged : goal.returns-in_err-wanted-clause-judged
returns-in_err-wanted-clause-judged g c =
    let f = c.args.filed in
    let t = c.args.target in
    let order = c.in_ok-judge_order.ensures ∙ (λ j. first_of (order_grounds (c.self.view_is j).rows f.common.order)) in
    handed c.from_residual-in_err-wanted.result _ c.from_residual-in_err-wanted.ensures.1
    ∙ of_terms c.args.self.now f c.args.space t order (c.in_err-wanted.ensures.judged ∙ (λ j. first_of (terms_grounds (c.basis.ensures.rules j) t f)))

pub returns-in_err-judge_room-clause-judged : goal.returns-in_err-judge_room-clause-judged
returns-in_err-judge_room-clause-judged g c =
    let b : Book = c.args.self.now in
    let f = c.args.filed in
    let t = c.args.target in
    let day = c.self.view_is in
    let order = c.in_ok-judge_order.ensures ∙ (λ j. first_of (order_grounds (day j).rows f.common.order)) in
    let terms = c.in_ok-wanted.ensures.judged ∙ (λ j. first_of (terms_grounds (c.basis.ensures.rules j) t f)) in
    let wants : c.in_ok-wanted.wanted ≡ wanted_by b t f = c.in_ok-wanted.ensures.wanted ∙ (λ j. wanted_of (c.basis.ensures.rules j) t f) in
    let surveyed = c.survey_for-survey.ensures ∙ (λ j. survey_at (day j).totals (day j).rows t (c.unwrap_or-order_type.ensures j)) in
    let stands : c.survey_for-survey.result.standing ≡ standing_of b t = ap (λ s. s.standing) surveyed in
    handed c.from_residual-in_err-judge_room.result _ c.from_residual-in_err-judge_room.ensures.1
    ∙ of_room b f c.args.space t order terms
    (c.in_err-judge_room.ensures ∙ (λ j. first_of (room_grounds (length (day j).rows) (day j).capacity (stands j) (wants j) (day j).next c.args.space (c.reply_length.ensures j))))

pub returns-clause-accepted : goal.returns-clause-accepted
returns-clause-accepted g c =
    let b : Book = c.args.self.now in
    let f = c.args.filed in
    let t = c.args.target in
    let day = c.self.view_is in
    let wants : c.in_ok-wanted.wanted ≡ wanted_by b t f = c.in_ok-wanted.ensures.wanted ∙ (λ j. wanted_of (c.basis.ensures.rules j) t f) in
    let surveyed = c.survey_for-survey.ensures ∙ (λ j. survey_at (day j).totals (day j).rows t (c.unwrap_or-order_type.ensures j)) in
    let stands : c.survey_for-survey.result.standing ≡ standing_of b t = ap (λ s. s.standing) surveyed in
    let enters = c.of.ensures ∙ (λ j. entering_of (c.basis.ensures.rules j) t f) in
    let done = c.is_completed.ensures ∙ (λ j. completes (stands j) (wants j)) in
    λ j. record { entering = enters j; wanted = wants j; survey = surveyed j; next = (day j).next; completes = done j }
