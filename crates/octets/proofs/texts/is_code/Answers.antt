use Rattle.std.proofs.Common.{◌≡◌, true, ◌&&◌, eqb, length, sym, ap, ◌∙◌, rules, tests}
use Rattle.std.proofs.lemmas.Iterator.{YieldsList-from_slice}
use Rattle.std.proofs.lemmas.Iterator.Search.{all_from_yields_List}
use Rattle.std.proofs.lemmas.Bool.{eq-eqb}
use Rattle.std.specs.List.{list_all}
use Rattle.octets.specs.Texts.{letter_or_digit}
use Rattle.octets.proofs.texts.is_code.Goals as goal

pub returns-then-part-width : goal.returns-then-part-width
returns-then-part-width c =
    let part = c.args.part.now in
    let wide : eqb (length part) c.args.width ≡ true = eq-eqb (length part) c.args.width c.if-part-width.true in
    all_from_yields_List letter_or_digit _ _ _ c.all.ensures.ran (YieldsList-from_slice part cc) (λ x b q k. search (rules, tests))
    ∙ sym (ap (λ b. b && list_all letter_or_digit part) wide)
