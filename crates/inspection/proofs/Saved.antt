-- What is saved is found. Assumes nothing.
use Rattle.std.proofs.Common.{◌≡◌, ℕ, ◌*◌, ◌≤◌, List, length, drop, take, sym, ap, ◌∙◌, subst, arith, length-append, length-drop}
use Rattle.std.specs.List.{All}
use Rattle.std.proofs.lemmas.List.{take_at}
use Rattle.ledger.specs.declared.row.Entry.{Entry}
use Rattle.ledger.specs.Rows.{IsNarrow}
use Rattle.blocks.specs.Image.{image, filled, blocks_in}
use Rattle.blocks.proofs.Images.{length-image}
use Rattle.inspection.specs.Laws.{Image}
use Rattle.inspection.specs.Sound.{found, sound_entries}
use Rattle.inspection.proofs.AllBlocks.{finds-all}

length-filled : (rows : List Entry) (lent : List ℕ) → length (filled (blocks_in lent) rows lent) ≡ length lent
length-filled rows lent =
    let n : ℕ = blocks_in lent in
    omega (arith, length-append (image n rows) (drop (512 * n) lent), length-image n rows, length-drop (512 * n) lent)

saved-image : (rows : List Entry) (lent : List ℕ) → All IsNarrow rows → length rows ≤ 7 * blocks_in lent → Image (filled (blocks_in lent) rows lent) rows
saved-image rows lent narrow fits =
    let n : ℕ = blocks_in lent in
    let same : n ≡ blocks_in (filled n rows lent) = omega (arith, length-filled rows lent) in
    record {
      narrow = narrow;
      fits = omega arith;
      image = subst (λ m. take (512 * m) (filled n rows lent) ≡ image m rows) same (take_at (image n rows) (drop (512 * n) lent) (512 * n) (length-image n rows));
    }

-- every block of them sound, and the rows
pub saved-found : (rows : List Entry) (lent bytes : List ℕ) → bytes ≡ filled (blocks_in lent) rows lent → All IsNarrow rows → length rows ≤ 7 * blocks_in lent →
    (found bytes ≡ record { blocks = blocks_in lent; entries = length rows }) × (sound_entries bytes ≡ rows)
saved-found rows lent bytes is narrow fits =
    let n : ℕ = blocks_in lent in
    let same : blocks_in bytes ≡ n = omega (arith, ap length is, length-filled rows lent) in
    let all = finds-all bytes rows (subst (λ b. Image b rows) (sym is) (saved-image rows lent narrow fits)) in
    (all.0 ∙ (λ i. record { blocks = same i; entries = length rows }), all.1)
