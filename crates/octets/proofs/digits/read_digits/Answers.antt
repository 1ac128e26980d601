use Rattle.std.proofs.Common.{length, ap, ◌∙◌, arith}
use Rattle.octets.specs.Digits.{number_after}
use Rattle.octets.proofs.Numbers.{length_digits, after-back}
use Rattle.octets.proofs.digits.read_digits.Goals as goal

pub returns-then-part-gt-WIDEST_NUMBER-clause-back :
    goal.returns-then-part-gt-WIDEST_NUMBER-clause-back
returns-then-part-gt-WIDEST_NUMBER-clause-back c = λ w n h l e. absurd (let k = ap length e ∙ length_digits w n in omega arith)

pub returns-clause-back : goal.returns-clause-back
returns-clause-back c = λ w n h l e. c.short_number.ensures.value ∙ ap (number_after 0) e ∙ after-back w n l
