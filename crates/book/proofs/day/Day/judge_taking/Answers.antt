use Rattle.std.proofs.Common.{◌≡◌, ℕ, ◌*◌, Bool, cond, not, List, [], ◌∷◌, length, nat_le, nat_lt, Some, None, ap, ◌∙◌, arith}
use Rattle.std.proofs.lemmas.Bool.Decides.{nat_tests}
use Rattle.std.specs.Result.{result_err}
use Rattle.groups.specs.Groups.{any_below}
use Rattle.groups.specs.Limits.{most_groups}
use Rattle.judge.specs.Grounds.{first_of}
use Rattle.judge.specs.declared.grounds.Ground.{Ground}
use Rattle.judge.specs.declared.grounds.Ground.TheVariants.{NothingUnfinished, Replies}
use Rattle.judge.proofs.Firsts.{unless_ok, unless}
use Rattle.lines.specs.Retained.{totals_taken}
use Rattle.lines.specs.Taking.{flagged}
use Rattle.book.specs.Book.{Book}
use Rattle.book.proofs.day.Day.judge_taking.Goals as goal

over : (wanted space : ℕ) → not (nat_le wanted space) ≡ nat_lt space wanted
over wanted space = grind (arith, nat_tests)

pub returns : goal.returns
returns g c =
    let b : Book = c.args.self.now in
    let taken : ℕ → Bool = flagged c.args.taken.now in
    let space : ℕ = c.args.space in
    let wanted : ℕ = length (totals_taken taken b.totals) * b.records.reply_length in
    let on_replies : List (Ground × Bool) = (Replies, nat_lt space wanted) ∷ [] in
    let any = c.is_any_taken.ensures ∙ ap (any_below taken) c.requires in
    let some = c.in_ok-ensure.ensures ∙ ap (λ t. cond t None (Some NothingUnfinished)) any in
    let count = c.answered_count.ensures ∙ (λ j. length (totals_taken taken (c.self.view_is j).totals)) in
    let room = c.ensure-2.ensures ∙ (λ j. cond (nat_le (count j * c.reply_length.ensures j) space) None (Some Replies)) in
    let short = room ∙ unless (nat_le wanted space) Replies ∙ ap (λ t. first_of ((Replies, t) ∷ [])) (over wanted space) in
    unless_ok (any_below taken most_groups) NothingUnfinished on_replies (result_err c.ensure-2.result) some short
