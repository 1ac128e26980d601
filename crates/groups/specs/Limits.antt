-- How many groups and totals a day can have, and what a group's totals may come to. Assumes nothing.
use Rattle.std.specs.Prelude.{ℕ}

abbrev pub most_groups : ℕ
most_groups = 64

-- one for each group and kind
abbrev pub most_totals : ℕ
most_totals = 128

-- shares, as many as a quantity's field holds
abbrev pub most_shares : ℕ
most_shares = 99999999

-- cents, as many as an amount's field holds
abbrev pub most_cents : ℕ
most_cents = 99999999999999
