use Rattle.std.proofs.Common.{◌≡◌, ◌+◌, ◌*◌, [], ◌∷◌, ◌++◌, vec_items, sym, ap, ◌∙◌, subst, arith, rules}
use Rattle.std.proofs.lemmas.Bool.{eq-eqb, and_from}
use Rattle.lots.specs.Pieces.{pieces_of, pending}
use Rattle.lots.specs.Split.{runs}
use Rattle.lots.specs.Units.{shares_to_unit}
use Rattle.lots.specs.declared.units.Lot.{Lot}
use Rattle.lots.specs.declared.units.Shares.{Shares}
use Rattle.preview.specs.Judge.{runs_of}
use Rattle.preview.specs.Table.{shares_each, Balanced}
use Rattle.preview.proofs.Tables.{pieces_of_terms, figures, balanced, Sofar, begins, quantity-fits, amount-fits, shares-fit, goes_on, same-figures, ends, ends-quantity, ends-amount}
use Rattle.preview.proofs.lines.tabulate.Goals as goal
use Rattle.preview.proofs.lines.tabulate.Goals.{In-Some}

pub loop-piece-init : goal.loop-piece-init
loop-piece-init c =
    let t = c.args.filing.terms in
    let unit = c.shares_each.ensures ∙ ap (λ (l : Lot). record { count = shares_to_unit l.kind l.size }) c.lot.ensures in
    let both : c.split.result ≡ runs_of t = c.split.ensures.answer ∙ ap (λ (u : Shares). runs t.quantity u.count t.amount.count) unit in
    let all : pending c.into_iter-piece-iterator.result ≡ pieces_of_terms t =
    ap pending c.into_iter-piece-iterator.ensures.into_iter_gives ∙ c.of-piece-items.ensures.items ∙ (λ i. pieces_of (c.cuts.ensures.value i) (both i)) in (
      tt,
      tt,
      subst (λ ls. Sofar t ls 0 0 0 (pending c.into_iter-piece-iterator.result)) (sym c.new-lines.ensures.items)
          (subst (Sofar t [] 0 0 0) (sym all) (begins (figures t c.args.filing.good))),
    )

-- the turn's piece is the first of those to come
turn : (c : In-Some) → Sofar c.args.filing.terms (vec_items c.loop-piece.lines) c.loop-piece.quantity c.loop-piece.shares c.loop-piece.amount (c.in-Some.piece ∷ pending c.next.new.self)
turn c = subst (Sofar c.args.filing.terms (vec_items c.loop-piece.lines) c.loop-piece.quantity c.loop-piece.shares c.loop-piece.amount) c.in-Some.ensures.steps c.loop-piece.invariant.2

pub next_line-line-requires : goal.next_line-line-requires
next_line-line-requires c =
    let sofar = turn (goal.at.next_line-line-requires c).In-Some in
    let known = figures c.args.filing.terms c.args.filing.good in
    record {
      small = omega (arith, quantity-fits sofar, known.most);
      quantities = omega (arith, quantity-fits sofar, known.most);
      amounts = let most = amount-fits sofar in search rules;
    }

pub overflow_add-shares : goal.overflow_add-shares
overflow_add-shares c =
    let known = figures c.args.filing.terms c.args.filing.good in
    let line = ap (λ l. l.shares.count) c.next_line-line.ensures in
    record { fits = omega (arith, shares-fit (turn (goal.at.overflow_add-shares c).In-Some) known) }

pub loop-piece-preserved : goal.loop-piece-preserved
loop-piece-preserved c =
    let line = c.next_line-line.ensures in (
      tt,
      tt,
      same-figures
          (c.in_ok-push.ensures.items ∙ ap (λ l. vec_items c.loop-piece.lines ++ l ∷ []) line)
          (ap (λ l. l.running_quantity) line)
          (ap (λ n. c.loop-piece.shares + n) (ap (λ l. l.shares.count) line))
          (ap (λ l. l.running_amount.count) line)
          (goes_on (turn (goal.at.loop-piece-preserved c).In-Some)),
    )

pub returns : goal.returns
returns c =
    let t = c.args.filing.terms in
    let sofar : Sofar t (vec_items c.loop-piece.lines) c.loop-piece.quantity c.loop-piece.shares c.loop-piece.amount [] = subst (Sofar t (vec_items c.loop-piece.lines) c.loop-piece.quantity c.loop-piece.shares c.loop-piece.amount) c.in-None.ensures.steps.0 c.loop-piece.invariant.2 in
    let known = figures t c.args.filing.good in
    let law : Balanced t (vec_items c.loop-piece.lines) = subst (Balanced t) (sym (ends sofar)) (balanced known) in
    record {
      lines = ends sofar;
      sums = record {
        quantity = ends-quantity sofar ∙ sym law.quantities;
        shares = sofar.units ∙ ap (λ n. n * shares_each t) (ends-quantity sofar) ∙ sym law.shares;
        amount = ends-amount sofar ∙ sym law.amounts;
      };
      law = law;
      equal = and_from _ _ (eq-eqb _ _ (ends-quantity sofar)) (eq-eqb _ _ (ends-amount sofar));
    }
