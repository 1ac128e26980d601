use Rattle.std.proofs.Common.{◌≡◌, ◌-◌, true, ◌&&◌, eqb, ltb, length, take, drop, sym, ap, ◌∙◌, arith, length-drop, rules, tests}
use Rattle.std.proofs.lemmas.List.{take_all}
use Rattle.std.proofs.lemmas.Iterator.{YieldsList-from_slice}
use Rattle.std.proofs.lemmas.Iterator.Search.{all_from_yields_List}
use Rattle.std.proofs.lemmas.Bool.{eq-eqb, lt-ltb}
use Rattle.std.specs.List.{list_all}
use Rattle.octets.specs.Texts.{is_blank}
use Rattle.octets.proofs.texts.is_security.Goals as goal

pub returns-then-n-gt0 : goal.returns-then-n-gt0
returns-then-n-gt0 c =
    let xs = c.args.part.now in
    let n = c.text_length-n.result in
    let wide : eqb (length xs) 6 ≡ true = eq-eqb (length xs) 6 c.if-part-ne-SECURITY_WIDTH.false in
    let some : ltb 0 n ≡ true = lt-ltb 0 n c.if-n-gt0.true in
    let rest : take (length xs - n) (drop n xs) ≡ drop n xs = take_all (length xs - n) (drop n xs) (simp length-drop (omega arith)) in
    all_from_yields_List is_blank _ _ _ c.all.ensures.ran (YieldsList-from_slice (take (length xs - n) (drop n xs)) cc) (λ x b q k. search (rules, tests))
    ∙ ap (list_all is_blank) rest
    ∙ sym (ap (λ b. b && (ltb 0 n && list_all is_blank (drop n xs))) wide ∙ ap (λ b. b && list_all is_blank (drop n xs)) some)
    ∙ ap (λ k. eqb (length xs) 6 && (ltb 0 k && list_all is_blank (drop k xs))) c.text_length-n.ensures.value
