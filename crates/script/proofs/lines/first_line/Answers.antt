use Rattle.std.proofs.Common.{◌≡◌, ℕ, ◌+◌, ◌-◌, ◌<◌, ◌==◌, false, List, [], ◌∷◌, length, take, sym, ap, ◌∙◌, arith}
use Rattle.std.proofs.lemmas.List.{take_rest, drop_all}
use Rattle.std.proofs.Math.Seq.{take-nil}
use Rattle.script.specs.Lines.{lines_of}
use Rattle.script.proofs.Splitting.{lines-first, lines-last}
use Rattle.script.proofs.lines.first_line.Goals as goal

pub returns-in-Some : goal.returns-in-Some
returns-in-Some c =
    let text = c.args.text.now in
    lines-first text c.in-Some.end (sym c.newline_in.ensures ∙ c.in-Some.is) ∙
    ap (λ l. take c.in-Some.end text ∷ lines_of l) (sym (take_rest text (c.in-Some.end + 1)))

pub returns-in-None : goal.returns-in-None
returns-in-None c =
    let text = c.args.text.now in
    lines-last text (some text (sym c.is_empty.ensures ∙ c.if-is_empty.false)) (sym c.newline_in.ensures ∙ c.in-None.is) ∙
    ap (λ l. text ∷ lines_of l) (sym (ap (λ l. take (length text - length text) l) (drop_all (length text) text (omega arith)) ∙ take-nil (length text - length text)))
  where
    some : (text : List ℕ) → (length text == 0) ≡ false → 0 < length text
    some [] e = let z : ◌≡◌ {A = ℕ} 0 1 = cc in absurd (omega arith)
    some (b ∷ bs) e = omega arith
