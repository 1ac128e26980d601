-- The 72 bytes of an entry. Numbers have their low byte first. Assumes nothing.
use Rattle.std.specs.Prelude.{ℕ, ◌+◌, ◌*◌, ◌/◌, ◌%◌, List, ◌∷◌, replicate, slice_index}
use Rattle.ledger.specs.declared.row.Entry.{Entry}

-- A number of four or eight bytes, before the bytes that follow it. Each size is written out, byte by byte, as the format has it.
abbrev pub four : ℕ → List ℕ → List ℕ
four n rest = n % 256 ∷ n / 256 % 256 ∷ n / 65536 % 256 ∷ n / 16777216 % 256 ∷ rest

abbrev pub eight : ℕ → List ℕ → List ℕ
eight n rest =
    n % 256 ∷ n / 256 % 256 ∷ n / 65536 % 256 ∷ n / 16777216 % 256 ∷ n / 4294967296 % 256 ∷ n / 1099511627776 % 256
    ∷ n / 281474976710656 % 256 ∷ n / 72057594037927936 % 256 ∷ rest

-- the number in the four or eight bytes from a place on
abbrev pub four_at : List ℕ → ℕ → ℕ
four_at bs i = slice_index bs i + slice_index bs (i + 1) * 256 + slice_index bs (i + 2) * 65536 + slice_index bs (i + 3) * 16777216

abbrev pub eight_at : List ℕ → ℕ → ℕ
eight_at bs i =
    slice_index bs i + slice_index bs (i + 1) * 256 + slice_index bs (i + 2) * 65536 + slice_index bs (i + 3) * 16777216
    + slice_index bs (i + 4) * 4294967296 + slice_index bs (i + 5) * 1099511627776 + slice_index bs (i + 6) * 281474976710656
    + slice_index bs (i + 7) * 72057594037927936

-- group (1), zero (1), kind (1), order type (1), order number (5), new broker (4), new account (4), quantity (4), price (4),
-- trade number (4), running quantity (4) and amount (8), the same by type (4, 8), 19 zeros
unfoldable pub entry_bytes : Entry → List ℕ
entry_bytes e =
    e.group ∷ 0 ∷ e.kind ∷ e.order_type ∷ e.order.first
    ∷ four e.order.rest (four e.new_broker (four e.new_account (four e.quantity (four e.price
    (four e.trade_number (four e.running_quantity (eight e.running_amount (four e.type_quantity
    (eight e.type_amount (replicate 19 0))))))))))

-- the entry that 72 bytes tell
unfoldable pub entry_of : List ℕ → Entry
entry_of bs = record {
  group = slice_index bs 0;
  kind = slice_index bs 2;
  order_type = slice_index bs 3;
  order = record { first = slice_index bs 4; rest = four_at bs 5 };
  new_broker = four_at bs 9;
  new_account = four_at bs 13;
  quantity = four_at bs 17;
  price = four_at bs 21;
  trade_number = four_at bs 25;
  running_quantity = four_at bs 29;
  running_amount = eight_at bs 33;
  type_quantity = four_at bs 41;
  type_amount = eight_at bs 45;
}
