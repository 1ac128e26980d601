use Rattle.std.proofs.Common.{not, get_or, sym, ap, arith}
use Rattle.std.proofs.lemmas.List.Filters.{FiltersInPlace-more_no, FiltersInPlace-more_set}
use Rattle.ledger.proofs.Closing.{blank, itself, behind-set}
use Rattle.ledger.proofs.table.calls.close_up.Goals as goal
use Rattle.ledger.proofs.table.calls.close_up.Goals.{then-not-is_of, else-not-is_of}

pub loop-i-preserved : goal.loop-i-preserved
loop-i-preserved c =
    let own = itself c.loop-i.entries c.loop-i.i blank (omega arith) in
    elim c.if-not-is_of.branch [
      | then-not-is_of w ↦ rw (w.entries-is, w.k-is) (
        FiltersInPlace-more_set {x = get_or c.loop-i.entries c.loop-i.i blank} c.loop-i.invariant.0 (omega arith) (ap not (sym w.if-not-is_of.ensures)) own,
        behind-set c.args.entries.now c.loop-i.entries c.loop-i.k _ c.loop-i.invariant.1,
      )
      | else-not-is_of w ↦ rw (w.entries-is, w.k-is) (
        FiltersInPlace-more_no {x = get_or c.loop-i.entries c.loop-i.i blank} c.loop-i.invariant.0 (omega arith) (ap not (sym w.if-not-is_of.ensures)) own,
        c.loop-i.invariant.1,
      )
    ]
