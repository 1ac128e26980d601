use Rattle.std.proofs.Common.{◌≡◌, ℕ, List, None, codes, sym, ap, ◌∙◌, rules, arith}
use Rattle.std.proofs.lemmas.Slice.Eq.{text_from_reads}
use Rattle.script.specs.Calls.{call_named}
use Rattle.script.proofs.reading.call_named.Goals as goal

by-name : (line name wanted : List ℕ) (count n : ℕ) → name ≡ wanted → count ≡ n → call_named line wanted n ≡ call_named line name count
by-name line name wanted count n is same = λ i. call_named line (sym is i) (sym same i)

pub returns-in-inspect : goal.returns-in-inspect
returns-in-inspect c =
    c.read_inspect.ensures ∙
    by-name c.args.line.now c.args.name.now (codes "inspect") c.args.count 2 (text_from_reads c.args.name.now (codes "inspect") (omega arith) (search rules)) c.in-2.is

pub returns-in-line : goal.returns-in-line
returns-in-line c =
    c.read_line.ensures ∙
    by-name c.args.line.now c.args.name.now (codes "line") c.args.count 4 (text_from_reads c.args.name.now (codes "line") (omega arith) (search rules)) c.in-4.is

pub returns-in-split : goal.returns-in-split
returns-in-split c =
    c.read_split.ensures ∙
    by-name c.args.line.now c.args.name.now (codes "split") c.args.count 4 (text_from_reads c.args.name.now (codes "split") (omega arith) (search rules)) c.in-4.is

pub returns-in-figures : goal.returns-in-figures
returns-in-figures c =
    c.read_figures.ensures ∙
    by-name c.args.line.now c.args.name.now (codes "figures") c.args.count 4 (text_from_reads c.args.name.now (codes "figures") (omega arith) (search rules)) c.in-4.is

pub returns-in-open : goal.returns-in-open
returns-in-open c =
    c.read_open.ensures ∙
    by-name c.args.line.now c.args.name.now (codes "open") c.args.count 7 (text_from_reads c.args.name.now (codes "open") (omega arith) (search rules)) c.in-7.is

pub returns-in-total : goal.returns-in-total
returns-in-total c =
    c.read_total.ensures ∙
    by-name c.args.line.now c.args.name.now (codes "total") c.args.count 8 (text_from_reads c.args.name.now (codes "total") (omega arith) (search rules)) c.in-8.is

-- four words, and none of the names of so many
pub returns-in_default-name-3 : goal.returns-in_default-name-3
returns-in_default-name-3 c =
    let none : None ≡ call_named c.args.line.now c.args.name.now 4 = search rules in
    none ∙ ap (call_named c.args.line.now c.args.name.now) (sym c.in-4.is)
