-- How long the replies to a filing are.
use Rattle.std.proofs.Common.{◌≡◌, ℕ, ◌*◌, Bool, List, [], ◌∷◌, length, arith, length-append}
use Rattle.ledger.specs.declared.row.Entry.{Entry}
use Rattle.layout.specs.Layouts.{width_of, record_of}
use Rattle.layout.specs.declared.field.Field.{Field}
use Rattle.layout.proofs.Widths.{length-record}
use Rattle.forms.specs.Replies.{piece_says}
use Rattle.lines.specs.Entries.{row_worth}
use Rattle.lines.specs.PieceReplies.{code_before, piece_replies}

-- one record for each entry
pub length-replies : (fs : List Field) (line : List ℕ) (s : ℕ) (completes : Bool) (xs : List Entry) → length (piece_replies fs line s completes xs) ≡ length xs * width_of fs
length-replies fs line s completes [] = omega arith
length-replies fs line s completes (x ∷ xs) =
    let says = piece_says line x (row_worth s x) (code_before completes (length xs)) in
    omega (arith, length-append (record_of says fs) (piece_replies fs line s completes xs), length-record says fs, length-replies fs line s completes xs)
