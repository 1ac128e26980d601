use Rattle.std.proofs.Common.{◌≡◌, ◌+◌, ◌-◌, ◌/◌, ◌%◌, [], ◌∷◌, length, take, arith}
use Rattle.std.proofs.lemmas.List.{take_more_set, append_assoc}
use Rattle.octets.specs.Texts.{unpacked}
use Rattle.octets.proofs.Packs.{unpacked-more}
use Rattle.octets.proofs.texts.put_packed.Goals as goal

pub loop-b-preserved : goal.loop-b-preserved
loop-b-preserved c =
    let xs = c.loop-b.b-items in
    let i = c.loop-b.b-index in
    let rest = c.loop-b.rest in
    let left = length c.args.field.now - (i + 1) in
    let w : length c.args.field.now - i ≡ left + 1 = omega arith in
    let s = take_more_set xs i (rest % 256) (omega arith) in
    let a = append_assoc (take i xs) (rest % 256 ∷ []) (unpacked left (rest / 256)) in
    let m = unpacked-more (length c.args.field.now - i) left rest w in
    cc
