-- What no call of a ledger changes of the memory that it was lent. Assumes nothing.
use Rattle.std.specs.Prelude.{ℕ, List}

-- Whose memory it is, by the names of the references that were lent, and the bytes past those in which the rows are kept.
pub record Lent : Type 0 where
  pub owners : List ℕ
  pub past : List ℕ
