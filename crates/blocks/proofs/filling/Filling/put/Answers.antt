use Rattle.std.proofs.Common.{◌+◌, ◌*◌, [], ◌∷◌, ◌++◌, replicate, sym, refl, subst, arith}
use Rattle.blocks.specs.Image.{sealed}
use Rattle.blocks.specs.Sifting.{Sifting}
use Rattle.blocks.proofs.Laying.{block-from, body-nil}
use Rattle.blocks.proofs.Sifting.{sifting-full}
use Rattle.blocks.proofs.filling.Filling.put.Goals as goal

pub returns-then-self-eq-ENTRIES_PER_BLOCK : goal.returns-then-self-eq-ENTRIES_PER_BLOCK
returns-then-self-eq-ENTRIES_PER_BLOCK c = λ kept rows n s.
    let t = c.args.self.now in
    let full = c.lay.new.places in
    subst (λ z. Sifting (kept ++ c.args.e ∷ []) rows n z (replicate 504 0) (t.block + 1) 0) (sym c.write.ensures)
    (sifting-full kept rows n (512 * t.block) 512 c.args.bytes.now t.places full (sealed (t.at + 1) t.block full) (replicate 504 0) t.block t.at c.args.e s c.lay.ensures (omega arith)
    (λ es is long. block-from t.block (t.at + 1) es full (omega arith) is) refl refl (omega arith) (sym body-nil))
