use Rattle.std.proofs.Common.{eqb, refl, ap, ◌∙◌}
use Rattle.groups.specs.Groups.{groups_of, totals_of, retained_at}
use Rattle.lines.specs.Taking.{flagged, rows_left, marked}
use Rattle.lines.proofs.Steps.{before, one_taken, passed_over, none_before, rows_more, rows_none, marked_more, marked_none}
use Rattle.lines.proofs.taking.take_groups.Goals as goal
use Rattle.lines.proofs.taking.take_groups.Goals.{then-flag, else-flag}

pub loop-n-init : goal.loop-n-init
loop-n-init g c =
    let rows = g.L.Ledger.rows c.args.ledger.now in
    let groups = groups_of c.args.table.now in
    let none = none_before (flagged c.args.taken.now) in
    record {
      list = rows_none rows ∙ ap (λ t. rows_left t rows) none;
      same = refl;
      kept = refl;
      groups = marked_none 0 groups ∙ ap (λ t. marked t 0 groups) none;
      totals = refl;
    }

pub loop-n-preserved : goal.loop-n-preserved
loop-n-preserved g c =
    let n = c.loop-n.n in
    let taken = flagged c.args.taken.now in
    let rows = g.L.Ledger.rows c.args.ledger.now in
    let groups = groups_of c.args.table.now in
    let so_far = c.loop-n.invariant in
    elim c.if-flag.branch [
      | then-flag w ↦
          let one = one_taken n taken w.if-flag.true in
          record {
            list = ap g.L.Ledger.rows w.ledger-is ∙ w.take_group.ensures.list ∙ ap (rows_left (λ k. eqb k n)) so_far.list ∙ rows_more n (before n taken) rows ∙ ap (λ t. rows_left t rows) one;
            same = ap g.L.Ledger.room w.ledger-is ∙ w.take_group.ensures.same ∙ so_far.same;
            kept = ap g.L.Ledger.lent w.ledger-is ∙ w.take_group.ensures.kept ∙ so_far.kept;
            groups = ap groups_of w.table-is ∙ w.take_group.ensures.groups ∙ ap (retained_at n) so_far.groups ∙ marked_more n (before n taken) groups ∙ ap (λ t. marked t 0 groups) one;
            totals = ap totals_of w.table-is ∙ w.take_group.ensures.totals ∙ so_far.totals;
          }
      | else-flag w ↦
          let none = passed_over n taken w.if-flag.false in
          record {
            list = ap g.L.Ledger.rows w.ledger-is ∙ so_far.list ∙ ap (λ t. rows_left t rows) none;
            same = ap g.L.Ledger.room w.ledger-is ∙ so_far.same;
            kept = ap g.L.Ledger.lent w.ledger-is ∙ so_far.kept;
            groups = ap groups_of w.table-is ∙ so_far.groups ∙ ap (λ t. marked t 0 groups) none;
            totals = ap totals_of w.table-is ∙ so_far.totals;
          }
    ]
