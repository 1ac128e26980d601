use Rattle.octets.proofs.Packs.{packed-padded, packed-below}
use Rattle.std.proofs.Common.{◌^◌, ◌<◌, length, sym, subst, arith}
use Rattle.octets.proofs.texts.pack.Goals as goal

pub returns : goal.returns
returns c =
    let part = c.args.part.now in
    let value = packed-padded part _ _ c.requires c.copy_from_slice.ensures.after c.from_le_bytes.ensures in
    record { value = value; bound = subst (λ n. n < 256 ^ length part) (sym value) (packed-below part (λ i. omega (arith, c.type_inv.part i))) }
