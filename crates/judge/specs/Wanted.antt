-- What a filing asks for: its shares, and the pieces that it comes back as. Assumes nothing.
use Rattle.std.specs.Prelude.{ℕ, ◌*◌, List, length}
use Rattle.lots.specs.Pieces.{pieces_of}
use Rattle.lots.specs.Units.{shares_to_unit}
use Rattle.lots.specs.declared.cut.Piece.{Piece}
use Rattle.judge.specs.declared.terms.Wanted.{Wanted}

-- the shares in one of what its quantity counts, and all that it asks for
abbrev pub shares_each : Wanted → ℕ
shares_each w = shares_to_unit w.lot.kind w.lot.size

abbrev pub shares_wanted : Wanted → ℕ
shares_wanted w = w.quantity * shares_each w

-- the pieces that it comes back as
abbrev pub pieces_wanted : Wanted → List Piece
pieces_wanted w = pieces_of w.cut w.runs

abbrev pub count_of : Wanted → ℕ
count_of w = length (pieces_wanted w)
