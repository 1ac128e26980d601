use Rattle.std.proofs.Common.{◌≡◌, ◌/◌, length, take, drop, ap, ◌∙◌, rules, tests, arith, length-drop}
use Rattle.std.proofs.lemmas.Iterator.{YieldsList-from_slice}
use Rattle.std.proofs.lemmas.Iterator.Search.{position_from_yields_List}
use Rattle.std.proofs.lemmas.List.{take_all}
use Rattle.std.specs.Simd.{first_chunks}
use Rattle.inspection.specs.Sound.{clean, places_in}
use Rattle.inspection.proofs.Cutting.{sought, places-are}
use Rattle.inspection.proofs.look.first_unclean.Goals as goal

pub returns : goal.returns
returns c =
    let block = c.args.block.now in
    let count = c.args.count in
    let rest = drop 4 block in
    let all : take 508 rest ≡ rest = take_all 508 rest (omega (arith, length-drop 4 block)) in
    let front : c.as_chunks.result.0.now ≡ first_chunks 72 (length (take 508 rest) / 72) (take 508 rest) = c.as_chunks.ensures.front in
    let places : c.iter.result.rest.now ≡ places_in count block =
    c.iter.ensures.rest ∙ ap (take count) (front ∙ ap (λ l. first_chunks 72 (length l / 72) l) all) ∙
    places-are count (length rest / 72) block (omega (arith, length-drop 4 block)) in
    sought clean (places_in count block) _
    (position_from_yields_List _ _ _ _ c.position.ensures.ran (YieldsList-from_slice {s = c.iter.result} (places_in count block) places) (λ x b q k. search (rules, tests)))
