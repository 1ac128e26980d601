use Rattle.std.proofs.Common.{◌≡◌, ℕ, ◌+◌, ◌-◌, ◌*◌, ◌/◌, List, [], ◌∷◌, ◌++◌, take, drop, sym, refl, ap, ◌∙◌, subst, arith, rules}
use borrow.Rule.Slice.PartMut.{put_mid}
use Rattle.std.proofs.lemmas.Bool.{lt-ltb, le-ltb}
use Rattle.std.proofs.lemmas.Slice.{drop-put_mid}
use Rattle.blocks.specs.Image.{Holds, rows_in}
use Rattle.blocks.proofs.Entries.{entry-back}
use Rattle.blocks.proofs.Holding.{grown, length-rows_in}
use Rattle.blocks.proofs.Images.{holds-filled}
use Rattle.blocks.proofs.filled.calls.BlocksLedger.append.Goals as goal
use Rattle.blocks.proofs.filled.calls.BlocksLedger.append.Goals.{After-add}

-- the memory with the entry's block written, and what it holds
abbrev after : After-add → List ℕ
after c =
    let a = c.args.self.now.len / 7 * 512 in
    put_mid a (a + 512 - a) c.args.self.now.bytes.now c.add.new.all

more : (c : After-add) →
    Holds c.args.self.now.blocks (rows_in (c.args.self.now.len + 1) (after c)) (after c) ×
    (rows_in (c.args.self.now.len + 1) (after c) ≡ rows_in c.args.self.now.len c.args.self.now.bytes.now ++ c.args.e ∷ [])
more c =
    let t = c.args.self.now in
    let bytes = t.bytes.now in
    let b = t.len / 7 in
    let from : b * 512 ≡ 512 * b = omega arith in
    let wide : b * 512 + 512 - b * 512 ≡ 512 = omega arith in
    grown t.blocks t.len b bytes (after c) c.args.e t.held (omega (arith, c.if-at-capacity.false, c.capacity.ensures)) t.room refl (entry-back c.args.e (search rules))
    (λ es is long i. put_mid (from i) (wide i) bytes (c.add.ensures es ((λ i. take 504 (drop 4 (take (wide i) (drop (from i) bytes)))) ∙ is) long i))

pub returns-then-at-capacity : goal.returns-then-at-capacity
returns-then-at-capacity c =
    let t = c.args.self.now in
    record {
      answer = let l = length-rows_in t.len t.bytes.now in sym (le-ltb _ _ (omega (arith, c.capacity.ensures)));
      list = refl;
      same = refl;
      kept = refl;
      memory = holds-filled t.blocks (rows_in t.len t.bytes.now) t.bytes.now t.bytes.now t.held t.room refl;
    }

pub invariant_of-self : goal.invariant_of-self
invariant_of-self c = record {
  few = c.args.self.now.few;
  room = search rules;
  fits = omega (arith, c.capacity.ensures);
  held = (more (goal.at.invariant_of-self c).After-add).0;
}

pub returns : goal.returns
returns c =
    let t = c.args.self.now in
    let a = t.len / 7 * 512 in
    let d = (goal.at.returns c).After-add in
    let more = more d in
    let rest = drop-put_mid a (a + 512 - a) t.bytes.now c.add.new.all (512 * t.blocks) (omega (arith, t.room)) (omega (arith, t.room)) (omega (arith, t.room)) in
    record {
      answer = let l = length-rows_in t.len t.bytes.now in sym (lt-ltb _ _ (omega (arith, c.capacity.ensures)));
      list = more.1;
      same = refl;
      kept = ap (λ b. record { owners = t.bytes.ghost_name ∷ []; past = b }) rest;
      memory = holds-filled t.blocks (rows_in t.len t.bytes.now ++ c.args.e ∷ []) (after d) t.bytes.now (subst (λ z. Holds t.blocks z (after d)) more.1 more.0) (search rules) rest;
    }
