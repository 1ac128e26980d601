use Rattle.std.proofs.Common.{◌≡◌, ◌*◌, ◌/◌, ◌++◌, sym, refl, ap, ◌∙◌, arith}
use Rattle.blocks.specs.Filled.{rows, lent}
use Rattle.blocks.specs.Image.{image}
use Rattle.blocks.proofs.Images.{holds-filled}
use Rattle.blocks.proofs.filled.Blocks.into_bytes.Goals as goal

pub returns-clause-memory : goal.returns-clause-memory
returns-clause-memory c =
    let t = c.args.self in
    let bytes = t.bytes.now in
    let blocks : 7 * t.blocks / 7 ≡ t.blocks = omega arith in
    holds-filled t.blocks (rows t) bytes bytes t.held t.room refl ∙ ap (λ n. image n (rows t) ++ (lent t).past) (sym blocks)
