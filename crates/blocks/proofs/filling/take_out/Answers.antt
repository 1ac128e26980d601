use Rattle.std.proofs.Common.{◌≡◌, ◌+◌, ◌*◌, ◌/◌, ◌≤◌, not, List, length, get_or, take, filter, sym, ap, ◌∙◌, subst, arith}
use Rattle.std.proofs.lemmas.List.{take_all, length-take}
use Rattle.ledger.specs.declared.row.Entry.{Entry}
use Rattle.ledger.specs.Rows.{others}
use Rattle.blocks.specs.Image.{body, rows_in, Holds}
use Rattle.blocks.specs.Sifting.{Sifting}
use Rattle.blocks.proofs.Holding.{length-rows_in, chunk-nil}
use Rattle.blocks.proofs.Laying.{body-nil}
use Rattle.blocks.proofs.Sifting.{sift-read, kept-skip, kept_push, length-kept-le}
use Rattle.blocks.proofs.filling.take_out.Goals as goal
use Rattle.blocks.proofs.filling.take_out.Goals.{After-is_of, then-not-is_of, else-not-is_of}

pub loop-i-init : goal.loop-i-init
loop-i-init c =
    let new = c.new-filling.ensures in
    record {
      count = omega (arith, new.at, new.block);
      small = omega (arith, new.at);
      laid = new.places ∙ sym body-nil ∙ ap body (sym (chunk-nil c.new-filling.result.block));
      done = λ k l. absurd (omega (arith, new.block));
      left = λ k _ l. c.requires.held k l;
    }

-- no more entries stay than were read
few : (c : After-is_of) → 7 * c.loop-i.filling.block + c.loop-i.filling.at ≤ c.loop-i.i
few c =
    let rows = rows_in c.args.len c.args.bytes.now in
    omega (arith, c.loop-i.invariant.count, length-kept-le (others c.args.group c.args.kind) (take c.loop-i.i rows), length-take c.loop-i.i rows)

-- the entry that was read is the row of that place
row : (c : After-is_of) → c.entry_at-e.result ≡ get_or (rows_in c.args.len c.args.bytes.now) c.loop-i.i c.entry_at-e.result
row c =
    sift-read (length c.args.bytes.now / 512) c.args.len c.loop-i.i c.loop-i.filling.block c.loop-i.filling.at _ c.args.bytes.now c.loop-i.bytes c.loop-i.filling.places
    c.entry_at-e.result c.requires.held c.requires.fits c.loop-i.invariant (few c) c.loop-i-test.true c.entry_at-e.ensures

pub put-requires : goal.put-requires
put-requires c =
    let h = few (goal.at.put-requires c).After-is_of in
    omega arith

pub loop-i-preserved : goal.loop-i-preserved
loop-i-preserved c =
    let rows : List Entry = rows_in c.args.len c.args.bytes.now in
    let n = length c.args.bytes.now / 512 in
    let l = length-rows_in c.args.len c.args.bytes.now in
    let d = (goal.at.loop-i-preserved c).After-is_of in
    let p = others c.args.group c.args.kind in
    elim c.if-not-is_of.branch [
      | then-not-is_of w ↦
          let same = kept_push p rows c.loop-i.i c.entry_at-e.result (omega arith) (row d) (ap not (sym w.if-not-is_of.ensures)) in
          rw (w.bytes-is, w.filling-is)
          (subst (λ z. Sifting z rows n w.put.new.bytes w.put.new.self.places w.put.new.self.block w.put.new.self.at) same (w.put.ensures _ rows n c.loop-i.invariant))
      | else-not-is_of w ↦
          let same = kept-skip p rows c.loop-i.i c.entry_at-e.result (omega arith) (row d) (ap not (sym w.if-not-is_of.ensures)) in
          rw (w.bytes-is, w.filling-is)
          (subst (λ z. Sifting z rows n c.loop-i.bytes c.loop-i.filling.places c.loop-i.filling.block c.loop-i.filling.at) same c.loop-i.invariant)
    ]

pub finish-requires : goal.finish-requires
finish-requires c =
    let rows = rows_in c.args.len c.args.bytes.now in
    omega (arith, c.loop-i.invariant.count, length-kept-le (others c.args.group c.args.kind) (take c.loop-i.i rows), length-take c.loop-i.i rows, length-rows_in c.args.len c.args.bytes.now)

pub returns : goal.returns
returns c =
    let s = c.loop-i.invariant in
    let rows : List Entry = rows_in c.args.len c.args.bytes.now in
    let n = length c.args.bytes.now / 512 in
    let l = length-rows_in c.args.len c.args.bytes.now in
    let all : take c.loop-i.i rows ≡ rows = take_all c.loop-i.i rows (omega arith) in
    let same = ap (filter (others c.args.group c.args.kind)) all in
    let most = length-kept-le (others c.args.group c.args.kind) (take c.loop-i.i rows) in
    let size = ap (λ n. n / 512) c.loop-i.auto.bytes in
    record {
      held =
          subst (λ z. Holds n z c.finish.new.bytes) same
          (subst (λ n. Holds n (filter (others c.args.group c.args.kind) (take c.loop-i.i rows)) c.finish.new.bytes) size
          (c.finish.ensures.held _ rows (subst (λ n. Sifting (filter (others c.args.group c.args.kind) (take c.loop-i.i rows)) rows n c.loop-i.bytes c.loop-i.filling.places c.loop-i.filling.block c.loop-i.filling.at) (sym size) s) (omega (arith, size, length-take c.loop-i.i rows))));
      count = c.finish.ensures.count ∙ sym s.count ∙ ap length same;
    }
