use Rattle.std.proofs.Common.{rules}
use Rattle.blocks.specs.Bytes.{entry_bytes}
use Rattle.ledger.specs.Rows.{IsNarrow}
use Rattle.blocks.proofs.Entries.{entry-back}
use Rattle.blocks.proofs.codec.entry_bytes.Goals as goal

pub returns : goal.returns
unfolding entry_bytes
returns c =
    let narrow : IsNarrow c.args.e = search rules in
    record {
      bytes = simp (
        c.copy_from_slice.ensures.after,
        c.to_le_bytes.ensures,
        c.copy_from_slice-2.ensures.after,
        c.to_le_bytes-2.ensures,
        c.copy_from_slice-3.ensures.after,
        c.to_le_bytes-3.ensures,
        c.copy_from_slice-4.ensures.after,
        c.to_le_bytes-4.ensures,
        c.copy_from_slice-5.ensures.after,
        c.to_le_bytes-5.ensures,
        c.copy_from_slice-6.ensures.after,
        c.to_le_bytes-6.ensures,
        c.copy_from_slice-7.ensures.after,
        c.to_le_bytes-7.ensures,
        c.copy_from_slice-8.ensures.after,
        c.to_le_bytes-8.ensures,
        c.copy_from_slice-9.ensures.after,
        c.to_le_bytes-9.ensures,
        c.copy_from_slice-10.ensures.after,
        c.to_le_bytes-10.ensures,
      );
      back = entry-back c.args.e narrow;
    }
