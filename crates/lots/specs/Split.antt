-- The split of a filing: first what is promised of it, then the rule. Assumes nothing.
--
-- A filing has q units of s shares each, for an amount in cents. It comes back as two runs, each a quantity of units at one price.
use Rattle.std.specs.Prelude.{◌≡◌, ℕ, ◌+◌, ◌-◌, ◌*◌, ◌/◌, ◌%◌, ◌<◌, Bool, cond, ◌&&◌, ◌==◌, nat_lt}
use Rattle.lots.specs.Units.{worth}
use Rattle.lots.specs.declared.units.Cents.{Cents}

-- a quantity of units, and the price of a share
abbrev pub Run : Type 0
Run = ℕ × Cents

abbrev pub quantity : Run → ℕ
quantity r = r.0

abbrev pub price : Run → ℕ
price r = r.1.count

-- the worth of a run of units of s shares
abbrev pub run_worth : ℕ → Run → ℕ
run_worth s r = worth s (quantity r) (price r)

-- an empty run is 0 at 0
abbrev pub no_run : Run
no_run = (0, record { count = 0 })

-- two runs that come out to the filing, no share and no cent more or less
pub record Exact (q s amount : ℕ) (r : Run × Run) : Type 0 where
  pub quantities : quantity r.0 + quantity r.1 ≡ q
  pub amounts : run_worth s r.0 + run_worth s r.1 ≡ amount
  -- a filing at one price is the first run alone
  pub first : 0 < quantity r.0
  pub cent : 0 < quantity r.1 → price r.1 ≡ price r.0 + 1
  pub empty : quantity r.1 ≡ 0 → r.1 ≡ no_run

-- a filing that can be split: of something, in units of something, with an amount that its shares can be worth in whole cents
abbrev pub Splits : ℕ → ℕ → ℕ → Type 0
Splits q s amount = (0 < q) × (0 < s) × (amount % s ≡ 0)

-- r is what comes of the filing, and nothing else could
pub record Law (q s amount : ℕ) (r : Run × Run) : Type 0 where
  pub exact : Splits q s amount → Exact q s amount r
  pub only : 0 < s → (t : Run × Run) → Exact q s amount t → t ≡ r
  pub none : (Splits q s amount → ⊥) → r ≡ (no_run, no_run)

-- The rule. With the amount for one share of each unit, divided by q: all but the remainder at the quotient,
-- the remainder at one cent more.
abbrev pub run : ℕ → ℕ → Run
run q p = cond (q == 0) no_run (q, record { count = p })

abbrev pub splits : ℕ → ℕ → ℕ → Bool
splits q s amount = nat_lt 0 q && (nat_lt 0 s && amount % s == 0)

abbrev pub runs : ℕ → ℕ → ℕ → Run × Run
runs q s amount =
    cond (splits q s amount)
    (run (q - amount / s % q) (amount / s / q), run (amount / s % q) (amount / s / q + 1))
    (no_run, no_run)
