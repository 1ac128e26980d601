use Rattle.std.proofs.Common.{◌≡◌, ℕ, ◌*◌, ◌≤◌, List, ◌++◌, length, drop, filter, refl, ap, ◌∙◌, subst, arith, rules}
use Rattle.std.proofs.lemmas.List.{length-take}
use Rattle.ledger.specs.Rows.{others}
use Rattle.blocks.specs.Image.{Holds, rows_in}
use Rattle.blocks.proofs.Holding.{length-rows_in}
use Rattle.blocks.proofs.Images.{rows-front, holds-front, holds-whole, filled-whole, filled-lent}
use Rattle.blocks.proofs.Sifting.{sifted}
use Rattle.blocks.proofs.filled.calls.BlocksLedger.remove.Goals as goal
use Rattle.blocks.proofs.filled.calls.BlocksLedger.remove.Goals.{After-take_out-left}

pub take_out-left-requires : goal.take_out-left-requires
take_out-left-requires c =
    let t = c.args.self.now in
    record {
      fits = omega (arith, t.fits, t.room, length-take (t.blocks * 512) t.bytes.now);
      held = holds-front t.blocks t.len (t.blocks * 512) t.bytes.now (omega arith) (omega (arith, t.room)) t.fits t.held;
    }

-- the memory with its blocks written
abbrev after : After-take_out-left → List ℕ
after c = c.take_out-left.new.bytes ++ drop (c.args.self.now.blocks * 512) c.args.self.now.bytes.now

-- the blocks hold the rows that stay, which are no more than there were
kept : (c : After-take_out-left) → Holds c.args.self.now.blocks (filter (others c.args.group c.args.kind) (rows_in c.args.self.now.len c.args.self.now.bytes.now)) c.take_out-left.new.bytes
kept c =
    let t = c.args.self.now in
    subst (λ z. Holds t.blocks (filter (others c.args.group c.args.kind) z) c.take_out-left.new.bytes) (rows-front t.blocks t.len (t.blocks * 512) t.bytes.now (omega arith) t.fits)
    (λ k lt. c.take_out-left.ensures.held k (omega (arith, lt, t.room, length-take (t.blocks * 512) t.bytes.now)))

stays : (c : After-take_out-left) →
    Holds c.args.self.now.blocks (rows_in c.take_out-left.result (after c)) (after c) ×
    (rows_in c.take_out-left.result (after c) ≡ filter (others c.args.group c.args.kind) (rows_in c.args.self.now.len c.args.self.now.bytes.now)) ×
    (c.take_out-left.result ≤ c.args.self.now.len)
stays c =
    let t = c.args.self.now in
    let p = others c.args.group c.args.kind in
    sifted p t.blocks t.len c.take_out-left.result t.bytes.now (after c) t.held t.fits
    (holds-whole t.blocks (t.blocks * 512) (filter p (rows_in t.len t.bytes.now)) t.bytes.now c.take_out-left.new.bytes (omega arith) (omega (arith, t.room)) c.take_out-left.auto.bytes (kept c))
    (c.take_out-left.ensures.count ∙ ap (λ z. length (filter p z)) (rows-front t.blocks t.len (t.blocks * 512) t.bytes.now (omega arith) t.fits))

pub invariant_of-self : goal.invariant_of-self
invariant_of-self c =
    let t = c.args.self.now in
    let d = stays (goal.at.invariant_of-self c).After-take_out-left in
    record { few = t.few; room = search rules; fits = omega (arith, t.fits, d.2); held = d.0 }

pub overflow_sub-result : goal.overflow_sub-result
overflow_sub-result c = omega (arith, (stays (goal.at.overflow_sub-result c).After-take_out-left).2)

pub returns : goal.returns
returns c =
    let t = c.args.self.now in
    let e = (goal.at.returns c).After-take_out-left in
    let d = stays e in
    let stay = filter (others c.args.group c.args.kind) (rows_in t.len t.bytes.now) in
    let memory = filled-whole t.blocks (t.blocks * 512) stay t.bytes.now c.take_out-left.new.bytes (omega arith) (omega (arith, t.room)) c.take_out-left.auto.bytes (kept e) in
    record {
      list = d.1;
      answer =
          let a = length-rows_in t.len t.bytes.now in
          let b = length-rows_in c.take_out-left.result (after e) in
          omega arith;
      same = refl;
      kept = filled-lent _ t.blocks stay (after e) t.bytes.now memory;
      memory = memory;
    }
