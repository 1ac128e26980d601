use Rattle.std.proofs.Common.{◌≡◌, ◌+◌, drop, sym, ap, ◌∙◌}
use Rattle.std.proofs.lemmas.Bool.{cond-false}
use Rattle.octets.specs.Digits.{number_after}
use Rattle.octets.specs.Options.{and_then}
use Rattle.octets.proofs.Numbers.{digit-more}
use Rattle.script.specs.Words.{fitting, number_in}
use Rattle.script.proofs.Fitting.{none-fits, no_less}
use Rattle.script.proofs.numbers.read_number.Goals as goal

pub returns-in_err-n : goal.returns-in_err-n
returns-in_err-n c =
    let word = c.args.word.now in
    let is : number_in word ≡ and_then (number_after 0 word) fitting = cond-false _ _ _ (sym c.is_empty.ensures ∙ c.if-is_empty.false) in
    let tall = none-fits _ (sym c.with_digit.ensures.value ∙ c.in_err-n.was) in
    let step = digit-more c.loop-b.n word c.loop-b.b-index c.loop-b-test.true (sym c.is_digit.ensures ∙ c.if-not-is_digit.false) in
    c.from_residual.ensures ∙ sym (is ∙ sym c.loop-b.invariant.left ∙ ap (λ o. and_then o fitting) step ∙ no_less _ (drop (c.loop-b.b-index + 1) word) tall)
