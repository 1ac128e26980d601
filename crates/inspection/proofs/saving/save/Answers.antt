use Rattle.std.proofs.Common.{◌≡◌, ◌+◌, ◌*◌, ◌<◌, min, true, [], ◌∷◌, ◌++◌, length, get_or, take, sym, refl, ap, ◌∙◌, subst, arith, rules}
use Rattle.std.specs.List.{All}
use Rattle.std.proofs.lemmas.List.{length-take, length_push, take_more, get_or-take}
use Rattle.std.proofs.lemmas.List.Elements.{All-push}
use Rattle.std.proofs.lemmas.Bool.{lt-ltb}
use Rattle.std.proofs.lemmas.Iterator.{YieldsList-from_take}
use Rattle.std.proofs.lemmas.Iterator.Consumers.{YieldsList-at, YieldsList-from_first, YieldsList-turn, YieldsList-end}
use Rattle.ledger.specs.Coming.{to_come}
use Rattle.ledger.specs.Rows.{IsNarrow, appended}
use Rattle.blocks.specs.Filled.{rows}
use Rattle.blocks.specs.Image.{filled, image, blocks_in}
use Rattle.blocks.proofs.Images.{holds-filled}
use Rattle.inspection.specs.Sound.{found, sound_entries}
use Rattle.inspection.proofs.Saved.{saved-found}
use Rattle.inspection.proofs.saving.save.Goals as goal

pub loop-e-preserved : goal.loop-e-preserved
loop-e-preserved g c =
    let all = g.L.Ledger.rows c.args.from.now in
    let e = c.in-Some.e in
    let i = length c.loop-e.yielded in
    let n = c.min-n.result in
    let inv = c.loop-e.invariant in
    let narrow : IsNarrow e = search rules in
    let road = YieldsList-at c.into_iter-e-iterator.ensures.into_iter_gives (YieldsList-from_take n (YieldsList-at c.take-e-items.ensures.source (YieldsList-from_first (λ x. x) (to_come g.L.Ledger.behind) all c.entries-entries.ensures.list)) c.take-e-items.ensures.count) in
    let turn = YieldsList-turn road c.loop-e.yielded c.loop-e.e-iterator c.loop-e.yielded_by _ c.next.new.self e c.in-Some.is c.next.ensures.steps in
    let inside : i < n = omega (arith, turn.0, length-take n all) in
    let below : i < length all = omega (arith, turn.0, length-take n all) in
    let one : take (i + 1) all ≡ take i all ++ e ∷ [] =
    take_more all i e below ∙ ap (λ x. take i all ++ x ∷ []) (sym (turn.1 ∙ get_or-take n all i e inside)) in
    let room : length (rows c.loop-e.to) < 7 * c.loop-e.to.blocks =
    omega (arith, ap length inv.2, length-take i all, inv.3, inside, c.min-n.ensures, c.capacity.ensures) in
    let yes : c.append.result ≡ true = c.append.ensures.answer ∙ lt-ltb _ _ room in
    let more : rows c.append.new.self ≡ rows c.loop-e.to ++ e ∷ [] = c.append.ensures.list ∙ ap (λ b. appended b (rows c.loop-e.to) e) yes in
    let next = ap (λ k. take k all) (sym (length_push c.loop-e.yielded e)) in (
      tt,
      tt,
      more ∙ ap (λ l. l ++ e ∷ []) inv.2 ∙ sym one ∙ next,
      c.append.ensures.same ∙ inv.3,
      c.append.ensures.kept ∙ inv.4,
      subst (All IsNarrow) (sym more) (All-push IsNarrow (rows c.loop-e.to) e inv.5 narrow),
    )

pub returns : goal.returns
returns g c =
    let all = g.L.Ledger.rows c.args.from.now in
    let lent = c.args.bytes.now in
    let i = length c.loop-e.yielded in
    let n = c.min-n.result in
    let b = blocks_in lent in
    let to = c.loop-e.to in
    let made = c.new-to.ensures in
    let inv = c.loop-e.invariant in
    let road = YieldsList-at c.into_iter-e-iterator.ensures.into_iter_gives (YieldsList-from_take n (YieldsList-at c.take-e-items.ensures.source (YieldsList-from_first (λ x. x) (to_come g.L.Ledger.behind) all c.entries-entries.ensures.list)) c.take-e-items.ensures.count) in
    let end = YieldsList-end road c.loop-e.yielded c.loop-e.e-iterator c.loop-e.yielded_by _ c.next.new.self c.in-None.is c.next.ensures.steps in
    let done : i ≡ n = omega (arith, end.1, length-take n all, c.min-n.ensures, c.count.ensures) in
    let mine : rows to ≡ take n all = inv.2 ∙ ap (λ k. take k all) done in
    let blocks : to.blocks ≡ b = omega (arith, inv.3, made.blocks) in
    let owned = inv.4 ∙ made.lender in
    let lender = ap (λ l. get_or l.owners 0 0) owned in
    let last : to.bytes.now ≡ filled b (take n all) lent =
    holds-filled to.blocks (rows to) to.bytes.now to.bytes.now to.held to.room refl ∙
    (λ j. image (blocks j) (mine j) ++ (owned j).past) in
    let answer = c.min-n.ensures ∙ (λ j. min (c.count.ensures j) ((c.capacity.ensures ∙ ap (λ n. 7 * n) made.blocks) j)) in
    let long : length (take n all) ≡ n = omega (arith, length-take n all) in
    let got = saved-found (take n all) lent to.bytes.now last (subst (All IsNarrow) mine inv.5) (omega arith) in
    let sound : found to.bytes.now ≡ record { blocks = b; entries = n } = got.0 ∙ (λ j. record { blocks = b; entries = long j }) in
    let back : sound_entries to.bytes.now ≡ take n all = got.1 in
    record {
      answer = answer;
      memory = search rules;
      sound = search rules;
      back = search rules;
    }
