use Rattle.std.proofs.Common.{◌&&◌, drop, sym, ap, ◌∙◌, rules, tests, arith, length-drop}
use Rattle.std.proofs.lemmas.Bool.{eq-eqb}
use Rattle.std.proofs.lemmas.Iterator.{YieldsList-from_slice}
use Rattle.std.proofs.lemmas.Iterator.Search.{all_from_yields_List}
use Rattle.std.proofs.lemmas.List.{take_all}
use Rattle.inspection.specs.Sound.{all_zero}
use Rattle.inspection.proofs.look.is_clean.Goals as goal

pub returns-then-place-eq0 : goal.returns-then-place-eq0
returns-then-place-eq0 c =
    let rest = take_all 19 (drop 53 c.args.place.now) (omega (arith, length-drop 53 c.args.place.now)) in
    all_from_yields_List _ _ _ _ c.all.ensures.ran (YieldsList-from_slice {s = c.iter.result} (drop 53 c.args.place.now) (c.iter.ensures.rest ∙ rest)) (λ x b q k. search (rules, tests)) ∙
    ap (λ b. b && all_zero (drop 53 c.args.place.now)) (sym (eq-eqb _ 0 c.if-place-eq0.true))
