-- What the totals of a group come to. Assumes nothing.
use Rattle.std.specs.Prelude.{ℕ, ◌+◌, ◌≤◌, Bool, cond, ◌||◌, List, sum_by, ◌==◌, nat_lt}
use Rattle.groups.specs.Limits.{most_shares, most_cents}
use Rattle.groups.specs.declared.kept.Total.{Total}
use Rattle.groups.specs.declared.kept.Traded.{Traded}

-- a total's shares and cents, where it is of a group
abbrev pub shares_for : ℕ → Total → ℕ
shares_for n t = cond (t.group == n) t.shares.count 0

abbrev pub cents_for : ℕ → Total → ℕ
cents_for n t = cond (t.group == n) t.amount.count 0

-- the sums of a group's totals
abbrev pub traded_by : ℕ → List Total → Traded
traded_by n ts = record { shares = record { count = sum_by (shares_for n) ts }; amount = record { count = sum_by (cents_for n) ts } }

-- so many shares or cents more come over what a group's totals may come to
abbrev pub comes_over : Traded → ℕ → ℕ → Bool
comes_over traded shares cents = nat_lt most_shares (traded.shares.count + shares) || nat_lt most_cents (traded.amount.count + cents)

-- no group comes over its shares, its cents
abbrev pub SharesFit : List Total → Type 0
SharesFit ts = (n : ℕ) → sum_by (shares_for n) ts ≤ most_shares

abbrev pub CentsFit : List Total → Type 0
CentsFit ts = (n : ℕ) → sum_by (cents_for n) ts ≤ most_cents
