-- Dates as YYYYMMDD and clocks as HHMMSS. Assumes nothing.
use Rattle.std.specs.Prelude.{ℕ, ◌/◌, ◌%◌, Bool, false, cond, not, ◌&&◌, ◌||◌, ◌==◌, Some, None, Option, nat_le, nat_lt}

-- every fourth year, but of the full hundreds only every fourth
abbrev pub leap : ℕ → Bool
leap y = (y % 4 == 0 && not (y % 100 == 0)) || y % 400 == 0

-- the days of a month, if there is such a month
abbrev pub days_in : ℕ → ℕ → Option ℕ
days_in y m =
    cond (m == 2) (Some (cond (leap y) 29 28))
    (cond (m == 4 || m == 6 || m == 9 || m == 11) (Some 30)
    (cond (nat_le 1 m && nat_le m 12) (Some 31) None))

-- a day of the calendar from 1990 to 2099
abbrev pub real_date : ℕ → Bool
real_date n =
    nat_le 1990 (n / 10000) && nat_le (n / 10000) 2099
    && elim (days_in (n / 10000) (n / 100 % 100)) [ Some last ↦ nat_le 1 (n % 100) && nat_le (n % 100) last | None ↦ false ]

-- a time of day
abbrev pub real_clock : ℕ → Bool
real_clock n = nat_lt (n / 10000) 24 && nat_lt (n / 100 % 100) 60 && nat_lt (n % 100) 60
