use Rattle.std.proofs.Common.{◌≡◌, ◌<◌, true, false, ltb, length, sym, ◌∙◌, subst, arith, length-set}
use Rattle.std.proofs.lemmas.Bool.{ltb-true}
use Rattle.std.proofs.lemmas.List.{length-take-le, take_more_set}
use Rattle.std.proofs.lemmas.List.Elements.{All-push}
use Rattle.groups.specs.Limits.{most_totals, most_shares, most_cents}
use Rattle.groups.specs.Each.{OneOfEach, OfGroups}
use Rattle.groups.specs.Sums.{traded_by, comes_over, SharesFit, CentsFit}
use Rattle.groups.specs.Groups.{groups_of, totals_of, has_total}
use Rattle.groups.proofs.Each.{takes, more, free}
use Rattle.groups.proofs.Sums.{fits_more, not-over}
use Rattle.groups.specs.declared.kept.GroupTable.{GroupTable}
use Rattle.groups.specs.declared.kept.Total.{Total}
use Rattle.groups.proofs.kept.GroupTable.accept.Goals as goal

-- a total that may be accepted is of a group, and has a place
within : (t : GroupTable) (x : Total) → ltb x.group (length (groups_of t)) ≡ true → x.group < t.count
within t x day = omega (arith, ltb-true x.group (length (groups_of t)) day, length-take-le t.count t.groups, t.few, t.places)

place : (t : GroupTable) (x : Total) → ltb x.group (length (groups_of t)) ≡ true → has_total x.group x.kind (totals_of t) ≡ false → t.accepted < most_totals
place t x day none =
    omega (arith, free t.count (totals_of t) x t.few t.each t.of_groups (within t x day) none, length-take-le t.accepted t.totals, t.fit, t.room)

pub bounds-self-at : goal.bounds-self-at
bounds-self-at c =
    let t = c.args.self.now in
    let x = c.args.total in
    let yes = takes _ _ _ (sym c.if-not-may_accept.false ∙ c.may_accept.ensures) in
    place t x yes.0 yes.1

pub invariant_of-self : goal.invariant_of-self
invariant_of-self c =
    let t = c.args.self.now in
    let x = c.args.total in
    let kept = totals_of t in
    let yes = takes (ltb x.group (length (groups_of t))) (has_total x.group x.kind kept) (comes_over (traded_by x.group kept) x.shares.count x.amount.count) (sym c.if-not-may_accept.false ∙ c.may_accept.ensures) in
    let free = place t x yes.0 yes.1 in
    let now = sym (take_more_set t.totals t.accepted x (omega (arith, free, t.room))) in
    let low = not-over (traded_by x.group kept) x.shares.count x.amount.count yes.2 in
    record {
      few = t.few;
      fit = omega (arith, free);
      places = t.places;
      room = length-set t.totals t.accepted x ∙ t.room;
      each = subst OneOfEach now (more kept x t.each yes.1);
      of_groups = subst (OfGroups t.count) now (All-push (λ y. y.group < t.count) kept x t.of_groups (within t x yes.0));
      shares_fit = subst SharesFit now (fits_more (λ y. y.shares.count) most_shares kept x t.shares_fit low.0);
      cents_fit = subst CentsFit now (fits_more (λ y. y.amount.count) most_cents kept x t.cents_fit low.1);
    }
