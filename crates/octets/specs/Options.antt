-- A reading that goes on with what was read: the library's `option_and_then` with the reading first, so that readings stand in their
-- order. Assumes nothing.
use Rattle.std.specs.Prelude.{Some, None, Option}

abbrev pub and_then : {A B : Type 0} → Option A → (A → Option B) → Option B
and_then None f = None
and_then (Some x) f = f x
