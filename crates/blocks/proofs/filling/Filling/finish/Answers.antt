use Rattle.std.proofs.Common.{◌/◌, length, sym, subst, arith}
use Rattle.blocks.specs.Image.{Holds}
use Rattle.blocks.proofs.Sifting.{sifting-end}
use Rattle.blocks.proofs.filling.Filling.finish.Goals as goal
use Rattle.blocks.proofs.filling.Filling.finish.Goals.{then-self-bytes, else-self-bytes}

pub returns-clause-held : goal.returns-clause-held
returns-clause-held c = λ kept rows s few.
    let t = c.args.self in
    let n = length c.args.bytes.now / 512 in
    elim c.if-self-bytes.branch [
      | then-self-bytes w ↦ subst (Holds n kept) (sym w.bytes-is)
          (sifting-end kept rows n t.block t.at c.args.bytes.now w.write.new.bytes w.clear_all.new.bytes t.places s w.write.ensures (omega (arith, w.if-self-bytes.true)) (λ k l m. w.clear_all.ensures.cleared k l (omega (arith, m, w.write.auto.bytes))) w.clear_all.ensures.before)
      | else-self-bytes w ↦ subst (Holds n kept) (sym w.bytes-is) (λ k l. s.done k (omega (arith, w.if-self-bytes.false)))
    ]
