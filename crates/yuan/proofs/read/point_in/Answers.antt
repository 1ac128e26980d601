use Rattle.std.proofs.Common.{◌≡◌, ℕ, ◌≤◌, eqb, ltb, cond, length, Some, None, ap, ◌∙◌, rules, tests, arith}
use Rattle.std.specs.Option.{unwrap_or}
use Rattle.std.proofs.lemmas.Grind.{common_steps}
use Rattle.std.proofs.lemmas.Iterator.{YieldsList-from_slice}
use Rattle.std.proofs.lemmas.Iterator.Search.{position_from_yields_List}
use Rattle.std.proofs.lemmas.List.Sums.{prefix_len-le-length}
use Rattle.yuan.specs.Read.{point}
use Rattle.yuan.proofs.read.point_in.Goals as goal

-- the first place that passes, or the length where none does
place-or-length : (i n : ℕ) → i ≤ n → unwrap_or (cond (ltb i n) (Some i) None) n ≡ i
place-or-length i n h = grind (arith, common_steps)

pub returns-clause-value : goal.returns-clause-value
returns-clause-value c =
    c.unwrap_or.ensures ∙
    ap (λ r. unwrap_or r (length c.args.word.now)) (position_from_yields_List (λ b. eqb b point) _ _ c.position.result c.position.ensures.ran (YieldsList-from_slice c.args.word.now cc) (λ x b q k. search (rules, tests))) ∙
    place-or-length _ _ (prefix_len-le-length _ c.args.word.now)
