-- The replies to a filing's entries, by the number of each.
use Rattle.std.proofs.Common.{◌≡◌, ℕ, ◌+◌, ◌-◌, Bool, List, [], ◌∷◌, ◌++◌, length, map, refl, ap, ◌∙◌, arith}
use Rattle.std.specs.List.{enumerate_from}
use denote.Ref.{Bor}
use Rattle.ledger.specs.declared.row.Entry.{Entry}
use Rattle.layout.specs.Values.{Content}
use Rattle.layout.specs.Layouts.{record_of}
use Rattle.layout.specs.declared.field.Field.{Field}
use Rattle.forms.specs.Records.{records_of}
use Rattle.forms.specs.Replies.{piece_says}
use Rattle.forms.specs.declared.contents.PieceReply.{PieceReply}
use Rattle.lines.specs.Entries.{row_worth}
use Rattle.lines.specs.PieceReplies.{code_before, piece_replies}

abbrev pub says : PieceReply → Field → Content
says c f = piece_says c.line.now c.entry c.amount.count c.code f

module _ (line : Bor (List ℕ)) (each : ℕ) (completes : Bool) (n : ℕ) where
  -- the reply to an entry, of n, and its number
  abbrev pub reply : ℕ × Entry → PieceReply
  reply p = record { line = line; entry = p.1; amount = record { count = row_worth each p.1 }; code = code_before completes (n - 1 - p.0) }

  pub replies-from : (fs : List Field) (i : ℕ) (xs : List Entry) → n ≡ i + length xs → records_of says fs (map reply (enumerate_from i xs)) ≡ piece_replies fs line.now each completes xs
  replies-from fs i [] e = refl
  replies-from fs i (x ∷ xs) e =
      let left : n - 1 - i ≡ length xs = omega (arith, e) in
      ap (λ k. record_of (piece_says line.now x (row_worth each x) (code_before completes k)) fs ++ records_of says fs (map reply (enumerate_from (i + 1) xs))) left
      ∙ ap (λ r. record_of (piece_says line.now x (row_worth each x) (code_before completes (length xs))) fs ++ r) (replies-from fs (i + 1) xs (omega (arith, e)))
