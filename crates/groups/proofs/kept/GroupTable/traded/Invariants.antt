use Rattle.std.proofs.Common.{◌≡◌, ◌+◌, drop, sum_by}
use Rattle.groups.specs.Sums.{shares_for, cents_for}
use Rattle.groups.specs.Groups.{totals_of}
use Rattle.groups.proofs.kept.GroupTable.traded.Given as goal

-- what is traded so far, and what is to come, give the sums
abbrev pub invariant-loop-total : goal.invariant-loop-total
invariant-loop-total l = record {
  shares : l.traded.shares.count + sum_by (shares_for l.number) (drop l.total-index l.total-items) ≡ sum_by (shares_for l.number) (totals_of l.self);
  amount : l.traded.amount.count + sum_by (cents_for l.number) (drop l.total-index l.total-items) ≡ sum_by (cents_for l.number) (totals_of l.self);
}
