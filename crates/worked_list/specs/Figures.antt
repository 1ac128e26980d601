-- The worked figures, worked out by hand. Assumes nothing.
use Rattle.std.specs.Prelude.{ℕ, List, [], ◌∷◌, replicate, Some, Ok, codes}
use Rattle.std.specs.List.{concat}
use Rattle.octets.specs.Splice.{spliced}
use Rattle.lots.specs.declared.cut.Piece.{Piece}
use Rattle.lots.specs.declared.units.Cents.{Cents}
use Rattle.lots.specs.declared.units.Kind.TheVariants.{BoardLot, OddLot}
use Rattle.lots.specs.declared.units.UnitSize.TheVariants.{Thousand}
use Rattle.families.specs.Parts.{GroupParts}
use Rattle.lines.specs.declared.open.State.{State}
use Rattle.lines.specs.declared.open.State.TheVariants.{Unfinished, Complete}
use Rattle.book.specs.Calls.{Call, total, line}
use Rattle.worked_list.specs.Answers.{Question, split, filing, day, Answer, in_runs, in_pieces, refused, in_turn, Figure, PlanDay, Seen}
use Rattle.worked_list.specs.Texts.{units, units_first, units_second, shares, shares_first, shares_second, rest, rest_only, deletion, deletion_only}
use Rattle.worked_list.specs.declared.worked.Family.{Family}
use Rattle.worked_list.specs.declared.worked.Family.TheVariants.{Plan, Omnibus}

abbrev pub figure : Question → Answer → Figure
figure q a = record { question = q; answer = a }

abbrev pub cents : ℕ → Cents
cents n = record { count = n }

abbrev pub piece : ℕ → ℕ → Piece
piece q price = record { quantity = q; price = cents price }

-- trading units of 1,000 shares for an amount in cents
abbrev pub board : Family → ℕ → ℕ → Question
board f q amount = filing (record { family = f; kind = BoardLot; size = Thousand; quantity = q; amount = cents amount })

-- shares for an amount in cents
abbrev pub odd : ℕ → ℕ → Question
odd q amount = filing (record { family = Plan; kind = OddLot; size = Thousand; quantity = q; amount = cents amount })

-- The day. A line is given a buffer of 600 bytes, `#` throughout.
abbrev pub hashes : List ℕ
hashes = replicate 600 35

abbrev pub with_replies : List (List ℕ) → List ℕ
with_replies rs = spliced hashes 0 (concat rs)

abbrev pub its_group : GroupParts
its_group = record { account = codes "8477771"; security = codes "2330  "; side = codes "B" }

-- a total of a kind and quantity for an amount in ten-thousandths of a yuan
abbrev pub totalled : ℕ → ℕ → ℕ → Call
totalled kind q amount = total (record { group = its_group; kind = kind; unit = 1000; quantity = q; amount = amount })

-- a line at half past three
abbrev pub lined : List ℕ → Call
lined bytes = line bytes 153000 hashes

-- an accepted total, after which so many shares and cents are open
abbrev pub after_total : ℕ → ℕ → Seen
after_total q amount = record { answer = Ok 0; buffer = []; open_figures = Some (record { count = q }, cents amount, Unfinished); rows = 0 }

-- a line that gets n replies, after which so many shares and cents are open, and the ledger has so many rows
abbrev pub after_line : ℕ → List (List ℕ) → ℕ → ℕ → State → ℕ → Seen
after_line n replies q amount state rows = record {
  answer = Ok n;
  buffer = with_replies replies;
  open_figures = Some (record { count = q }, cents amount, state);
  rows = rows;
}

-- 3 trading units, 999 shares and 31 shares are filed, which is all of both totals; then the odd lots are deleted
abbrev pub worked_day : PlanDay
worked_day = record {
  broker = codes "585P";
  date = 20240102;
  first = 1;
  places = 16;
  group = its_group;
  calls = totalled 0 4 2000000000 ∷ totalled 2 30 15000000 ∷ lined units ∷ lined shares ∷ lined rest ∷ lined deletion ∷ [];
}

abbrev pub seen_on_it : List Seen
seen_on_it =
    after_total 4000 20000000 ∷
    after_total 4030 20150000 ∷
    after_line 2 (units_first ∷ units_second ∷ []) 1030 5149000 Unfinished 2 ∷
    after_line 2 (shares_first ∷ shares_second ∷ []) 31 155000 Unfinished 4 ∷
    after_line 1 (rest_only ∷ []) 0 0 Complete 5 ∷
    after_line 1 (deletion_only ∷ []) 1030 5149000 Unfinished 2 ∷ []

abbrev pub figures : List Figure
figures =
    figure (board Plan 3 10001000) (in_pieces (piece 1 3333 ∷ piece 2 3334 ∷ [])) ∷
    figure (board Plan 3 10000500) (refused 18) ∷
    figure (odd 7 100) (in_pieces (piece 5 14 ∷ piece 2 15 ∷ [])) ∷
    figure (odd 7 6) (refused 19) ∷
    figure (split 199985 1 641452000) (in_runs ((99880, cents 3207), (100105, cents 3208))) ∷
    figure (board Omnibus 1000 1000000000) (in_pieces (piece 499 1000 ∷ piece 499 1000 ∷ piece 2 1000 ∷ [])) ∷
    figure (odd 2 19999998) (in_pieces (piece 2 9999999 ∷ [])) ∷
    figure (odd 2 19999999) (refused 19) ∷
    figure (day worked_day) (in_turn seen_on_it) ∷ []
