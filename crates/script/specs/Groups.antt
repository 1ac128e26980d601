-- The words that name a group, by their bytes. Assumes nothing.
use Rattle.std.specs.Prelude.{ℕ, List}
use Rattle.script.specs.declared.calls.GroupWords.{GroupWords}

abbrev pub group_of : List ℕ → List ℕ → List ℕ → GroupWords
group_of account security side = record { account = account; security = security; side = side }
