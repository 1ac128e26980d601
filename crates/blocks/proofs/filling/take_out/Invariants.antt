use Rattle.std.proofs.Common.{◌/◌, length, take, filter}
use Rattle.ledger.specs.Rows.{others}
use Rattle.blocks.specs.Image.{rows_in}
use Rattle.blocks.specs.Sifting.{Sifting}
use Rattle.blocks.proofs.filling.take_out.Given as goal

-- of the entries so far, those that stay are laid
abbrev pub invariant-loop-i : goal.invariant-loop-i
invariant-loop-i l =
    Sifting (filter (others l.group l.kind) (take l.i (rows_in l.len l.initial.bytes))) (rows_in l.len l.initial.bytes) (length l.initial.bytes / 512) l.bytes l.filling.places l.filling.block l.filling.at
