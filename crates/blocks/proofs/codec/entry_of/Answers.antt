use Rattle.std.proofs.Common.{get_or}
use Rattle.blocks.specs.Bytes.{entry_of}
use Rattle.blocks.proofs.Entries.{four-read, eight-read}
use Rattle.blocks.proofs.codec.entry_of.Goals as goal

pub returns : goal.returns
unfolding entry_of
returns c =
    let bytes = c.args.bytes.now in
    let order = four-read bytes _ 5 _ c.bytes_at.ensures c.from_le_bytes.ensures in
    let broker = four-read bytes _ 9 _ c.bytes_at-2.ensures c.from_le_bytes-2.ensures in
    let account = four-read bytes _ 13 _ c.bytes_at-3.ensures c.from_le_bytes-3.ensures in
    let quantity = four-read bytes _ 17 _ c.bytes_at-4.ensures c.from_le_bytes-4.ensures in
    let price = four-read bytes _ 21 _ c.bytes_at-5.ensures c.from_le_bytes-5.ensures in
    let trade = four-read bytes _ 25 _ c.bytes_at-6.ensures c.from_le_bytes-6.ensures in
    let running = four-read bytes _ 29 _ c.bytes_at-7.ensures c.from_le_bytes-7.ensures in
    let amount = eight-read bytes _ 33 _ c.bytes_at-8.ensures c.from_le_bytes-8.ensures in
    let typed = four-read bytes _ 41 _ c.bytes_at-9.ensures c.from_le_bytes-9.ensures in
    let last = eight-read bytes _ 45 _ c.bytes_at-10.ensures c.from_le_bytes-10.ensures in
    λ i. record {
      group = get_or bytes 0 0;
      kind = get_or bytes 2 0;
      order_type = get_or bytes 3 0;
      order = record { first = get_or bytes 4 0; rest = order i };
      new_broker = broker i;
      new_account = account i;
      quantity = quantity i;
      price = price i;
      trade_number = trade i;
      running_quantity = running i;
      running_amount = amount i;
      type_quantity = typed i;
      type_amount = last i;
    }
