-- An entry's bytes tell it again. Assumes nothing.
use Rattle.std.proofs.Common.{◌≡◌, ℕ, ◌+◌, ◌*◌, ◌/◌, ◌%◌, ◌^◌, ◌<◌, List, get_or, take, drop, ap, ◌∙◌, mod-eq_of_lt, arith}
use Rattle.std.proofs.Math.Nat.{div-div-eq-div-mul}
use Rattle.std.proofs.lemmas.List.{get_or-take, get_or-drop}
use Rattle.ledger.specs.declared.row.Entry.{Entry}
use Rattle.ledger.specs.Rows.{IsNarrow}
use Rattle.blocks.specs.Bytes.{entry_bytes, entry_of, four_at, eight_at}

pub four-back : (n : ℕ) → n < 2 ^ 32 → n % 256 + n / 256 % 256 * 256 + n / 65536 % 256 * 65536 + n / 16777216 % 256 * 16777216 ≡ n
four-back n h =
    let t : n / 16777216 < 256 = omega arith in
    omega (arith, mod-eq_of_lt t, div-div-eq-div-mul n 256 256, div-div-eq-div-mul n 65536 256)

pub eight-back : (n : ℕ) → n < 2 ^ 64 →
    n % 256 + n / 256 % 256 * 256 + n / 65536 % 256 * 65536 + n / 16777216 % 256 * 16777216 + n / 4294967296 % 256 * 4294967296
    + n / 1099511627776 % 256 * 1099511627776 + n / 281474976710656 % 256 * 281474976710656
    + n / 72057594037927936 % 256 * 72057594037927936 ≡ n
eight-back n h =
    let t : n / 72057594037927936 < 256 = omega arith in
    omega (
      arith,
      mod-eq_of_lt t,
      div-div-eq-div-mul n 256 256,
      div-div-eq-div-mul n 65536 256,
      div-div-eq-div-mul n 16777216 256,
      div-div-eq-div-mul n 4294967296 256,
      div-div-eq-div-mul n 1099511627776 256,
      div-div-eq-div-mul n 281474976710656 256,
    )

pub entry-back : (e : Entry) → IsNarrow e → entry_of (entry_bytes e) ≡ e
unfolding entry_of entry_bytes
entry-back e h = λ i. record {
  group = e.group;
  kind = e.kind;
  order_type = e.order_type;
  order = record { first = e.order.first; rest = four-back e.order.rest h.order-rest i };
  new_broker = four-back e.new_broker h.broker i;
  new_account = four-back e.new_account h.account i;
  quantity = four-back e.quantity h.quantity i;
  price = four-back e.price h.price i;
  trade_number = four-back e.trade_number h.trade i;
  running_quantity = four-back e.running_quantity h.running-quantity i;
  running_amount = eight-back e.running_amount h.running-amount i;
  type_quantity = four-back e.type_quantity h.type-quantity i;
  type_amount = eight-back e.type_amount h.type-amount i;
}

-- a number is read from the bytes of its part
byte-read : (bs : List ℕ) (n i k j : ℕ) → k < n → i + k ≡ j → get_or (take n (drop i bs)) k 0 ≡ get_or bs j 0
byte-read bs n i k j lt e = get_or-take n (drop i bs) k 0 lt ∙ get_or-drop i bs k 0 ∙ ap (λ z. get_or bs z 0) e

pub four-read : (bs part : List ℕ) (i r : ℕ) → part ≡ take 4 (drop i bs) → r ≡ four_at part 0 → r ≡ four_at bs i
four-read bs part i r e is =
    let at = λ (k j : ℕ) (lt : k < 4) (q : i + k ≡ j). byte-read bs 4 i k j lt q in
    let b0 = at 0 i (omega arith) (omega arith) in
    let b1 = at 1 (i + 1) (omega arith) (omega arith) in
    let b2 = at 2 (i + 2) (omega arith) (omega arith) in
    let b3 = at 3 (i + 3) (omega arith) (omega arith) in
    is ∙ ap (λ p. four_at p 0) e ∙ (λ k. b0 k + b1 k * 256 + b2 k * 65536 + b3 k * 16777216)

pub eight-read : (bs part : List ℕ) (i r : ℕ) → part ≡ take 8 (drop i bs) → r ≡ eight_at part 0 → r ≡ eight_at bs i
eight-read bs part i r e is =
    let at = λ (k j : ℕ) (lt : k < 8) (q : i + k ≡ j). byte-read bs 8 i k j lt q in
    let b0 = at 0 i (omega arith) (omega arith) in
    let b1 = at 1 (i + 1) (omega arith) (omega arith) in
    let b2 = at 2 (i + 2) (omega arith) (omega arith) in
    let b3 = at 3 (i + 3) (omega arith) (omega arith) in
    let b4 = at 4 (i + 4) (omega arith) (omega arith) in
    let b5 = at 5 (i + 5) (omega arith) (omega arith) in
    let b6 = at 6 (i + 6) (omega arith) (omega arith) in
    let b7 = at 7 (i + 7) (omega arith) (omega arith) in
    is ∙ ap (λ p. eight_at p 0) e
    ∙ (λ k. b0 k + b1 k * 256 + b2 k * 65536 + b3 k * 16777216 + b4 k * 4294967296 + b5 k * 1099511627776 + b6 k * 281474976710656 + b7 k * 72057594037927936)
