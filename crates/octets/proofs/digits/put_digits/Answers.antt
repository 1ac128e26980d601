use Rattle.std.proofs.Common.{◌≡◌, ◌+◌, ◌-◌, ◌/◌, ◌%◌, ap, length, refl, arith}
use Rattle.std.proofs.lemmas.Grind.{drop-set_at}
use Rattle.octets.proofs.Numbers.{digits_more, div-more}
use Rattle.octets.proofs.digits.put_digits.Goals as goal

pub loop-i-preserved : goal.loop-i-preserved
loop-i-preserved c =
    let n = c.args.n in
    let at = c.loop-i.i - 1 in
    let w = length c.args.field.now - c.loop-i.i in
    let inv = c.loop-i.invariant in
    let e : at + 1 ≡ c.loop-i.i = omega arith in
    let f : length c.args.field.now - at ≡ w + 1 = omega arith in
    let s = drop-set_at c.loop-i.field at at (48 + c.loop-i.rest % 10) refl (omega arith) in
    let d = digits_more w n in
    let q = div-more 10 w n in
    let digit : c.last_digit-others.result.1 ≡ c.loop-i.rest % 10 = ap (λ d. d.1) c.last_digit-others.ensures in
    let others : c.last_digit-others.result.0 ≡ c.loop-i.rest / 10 = ap (λ d. d.0) c.last_digit-others.ensures in
    let i0 = inv.0 in
    let i1 = inv.1 in
    (cc, cc)
