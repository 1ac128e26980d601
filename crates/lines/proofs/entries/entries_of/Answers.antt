use Rattle.std.proofs.Common.{◌≡◌, [], ◌∷◌, ◌++◌, length, sym, ap, ◌∙◌, subst, arith}
use Rattle.std.proofs.lemmas.List.{append-nil}
use Rattle.lots.specs.Pieces.{pending}
use Rattle.lines.specs.Entries.{entries_from, Entered}
use Rattle.lines.proofs.EntriesLaw.{entered}
use Rattle.lines.proofs.Turns.{Sofar, first, goes_on}
use Rattle.lines.proofs.entries.entries_of.Goals as goal
use Rattle.lines.proofs.entries.entries_of.Goals.{In-Some}

-- the turn's piece is the first of those to come
turn : (c : In-Some) → Sofar c.args.entering c.args.before (pending c.into_iter-piece-iterator.result) c.loop-piece.entries.items c.loop-piece.at (c.in-Some.piece ∷ pending c.next.new.self)
turn c = subst (Sofar c.args.entering c.args.before (pending c.into_iter-piece-iterator.result) c.loop-piece.entries.items c.loop-piece.at) c.in-Some.ensures.steps c.loop-piece.invariant.2

pub step-requires : goal.step-requires
step-requires c = first c.args.entering c.loop-piece.at c.in-Some.piece (pending c.next.new.self) (turn c).room

pub loop-piece-preserved : goal.loop-piece-preserved
loop-piece-preserved c =
    let next = goes_on c.args.entering c.args.before (pending c.into_iter-piece-iterator.result) c.loop-piece.entries.items c.loop-piece.at c.in-Some.piece (pending c.next.new.self) (turn (goal.at.loop-piece-preserved c).In-Some) in
    let more = subst (λ r. Sofar c.args.entering c.args.before (pending c.into_iter-piece-iterator.result) (c.loop-piece.entries.items ++ r.0 ∷ []) r.1 (pending c.next.new.self)) (sym c.step.ensures) next in (
      tt,
      tt,
      subst (λ xs. Sofar c.args.entering c.args.before (pending c.into_iter-piece-iterator.result) xs c.step.result.1 (pending c.next.new.self)) (sym c.push.ensures.items) more,
    )

pub returns : goal.returns
returns c =
    let same : pending c.into_iter-piece-iterator.result ≡ pending c.args.pieces = ap pending c.into_iter-piece-iterator.ensures.into_iter_gives in
    let s : Sofar c.args.entering c.args.before (pending c.into_iter-piece-iterator.result) c.loop-piece.entries.items c.loop-piece.at [] = subst (Sofar c.args.entering c.args.before (pending c.into_iter-piece-iterator.result) c.loop-piece.entries.items c.loop-piece.at) c.in-None.ensures.steps.0 c.loop-piece.invariant.2 in
    let items = sym (append-nil c.loop-piece.entries.items) ∙ s.list ∙ ap (entries_from c.args.entering c.args.before) same in
    record {
      items = items;
      count = omega (arith, s.counted, ap length same);
      law = subst (Entered c.args.entering c.args.before (pending c.args.pieces)) (sym items) (entered c.args.entering c.args.before (pending c.args.pieces));
    }
