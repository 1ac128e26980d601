-- What a day answers when it is asked. Assumes nothing.
use Rattle.std.specs.Prelude.{ℕ, Bool, false, cond, List, length, Some, None, Ok, Err, Option, Result, ◌==◌, nat_lt, ⊤}
use Rattle.std.specs.Option.{option_map}
use Rattle.std.specs.List.{slice_get}
use Rattle.octets.specs.Splice.{spliced}
use Rattle.lots.specs.declared.units.Shares.{Shares}
use Rattle.lots.specs.declared.units.Cents.{Cents}
use Rattle.groups.specs.Groups.{any_below}
use Rattle.families.specs.Parts.{GroupParts}
use Rattle.lines.specs.Open.{standing_at, state_of, unfinished}
use Rattle.lines.specs.declared.open.Standing.{Standing}
use Rattle.lines.specs.declared.open.State.{State}
use Rattle.judge.specs.Grounds.{ground_number}
use Rattle.judge.specs.Heading.{place_named}
use Rattle.judge.specs.declared.grounds.Ground.{Ground}
use Rattle.judge.specs.declared.grounds.Ground.TheVariants.{ReplyRoom, RowIndex}
use Rattle.book.specs.Book.{Book, row_bytes}
use Rattle.book.specs.declared.questions.Verdict.{Verdict}
use Rattle.book.specs.declared.questions.Verdict.TheVariants.{NoGroups, Unfinished, Finished}

-- open shares, open amount and state
abbrev pub figures_of : Standing → Shares × Cents × State
figures_of s = (s.open_shares, s.open_amount, state_of s)

-- nothing for a group without a total
abbrev pub figures_answer : Book → GroupParts → Option (Shares × Cents × State)
figures_answer b g = option_map (λ p. figures_of (standing_at b.totals b.rows p.number p.group)) (place_named b.rules b.groups g)

-- the group of number n is neither complete nor retained
abbrev pub unfinished_at : Book → ℕ → Bool
unfinished_at b n = elim (slice_get b.groups n) [ Some g ↦ unfinished (standing_at b.totals b.rows n g) | None ↦ false ]

-- a verdict as a number
abbrev pub verdict_number : Verdict → ℕ
verdict_number NoGroups = 0
verdict_number Unfinished = 1
verdict_number Finished = 2

-- 0 for a day without groups, 2 when every group is complete or retained, else 1
abbrev pub verdict_answer : Book → ℕ
verdict_answer b = cond (length b.groups == 0) 0 (cond (any_below (unfinished_at b) (length b.groups)) 1 2)

-- the row of an index, or the ground for which it is refused; space is the length of the buffer
abbrev pub row_answer : Book → ℕ → ℕ → Result (List ℕ) Ground
row_answer b i space =
    cond (nat_lt space b.records.row_length) (Err ReplyRoom)
    (elim (slice_get b.rows i) [ Some e ↦ Ok (row_bytes b e) | None ↦ Err RowIndex ])

-- what the call answers, a refusal by its number, and what the buffer then holds
abbrev pub row_told : Result (List ℕ) Ground → Result ⊤ ℕ
row_told (Ok bytes) = Ok tt
row_told (Err g) = Err (ground_number g)

abbrev pub row_buffer : Result (List ℕ) Ground → List ℕ → List ℕ
row_buffer (Ok bytes) buffer = spliced buffer 0 bytes
row_buffer (Err g) buffer = buffer
