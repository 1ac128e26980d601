-- The replies to the pieces of a filing. Assumes nothing.
use Rattle.std.specs.Prelude.{ℕ, Bool, cond, ◌&&◌, List, [], ◌∷◌, ◌++◌, length, ◌==◌}
use Rattle.ledger.specs.declared.row.Entry.{Entry}
use Rattle.layout.specs.Layouts.{record_of}
use Rattle.layout.specs.declared.field.Field.{Field}
use Rattle.forms.specs.Replies.{piece_says}
use Rattle.lines.specs.Entries.{row_worth}

-- 00 on the last piece of a filing that completes its group, else 79
abbrev pub code_before : Bool → ℕ → ℕ
code_before completes left = cond (completes && left == 0) 0 79

-- one reply for each entry that a filing's line made, in units of s shares
abbrev pub piece_replies : List Field → List ℕ → ℕ → Bool → List Entry → List ℕ
piece_replies fs line s completes [] = []
piece_replies fs line s completes (x ∷ xs) = record_of (piece_says line x (row_worth s x) (code_before completes (length xs))) fs ++ piece_replies fs line s completes xs
