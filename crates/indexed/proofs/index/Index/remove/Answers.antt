use Rattle.std.proofs.Common.{◌≡◌, ◌+◌, ◌≤◌, length, Some, sym, ◌∙◌, arith, rules}
use Rattle.std.specs.List.{slice_get}
use Rattle.std.proofs.lemmas.Option.{slice_get_read, slice_get_past}
use Rattle.std.proofs.lemmas.Grind.{common_steps}
use Rattle.indexed.specs.Index.{section_number, empty_section}
use Rattle.indexed.proofs.Keeping.{Keeps-removal}
use Rattle.indexed.proofs.OrderNumbers.{filter-no_section}
use Rattle.indexed.proofs.index.Index.remove.Goals as goal

pub returns-in_default-clause-tells : goal.returns-in_default-clause-tells
returns-in_default-clause-tells c = λ rows tells known.
    let x = c.args.self.now in
    rw (filter-no_section x.sections.items x.orders rows c.args.group c.args.kind (λ n is. absurd (c.in_default.not-Some n (c.section_number.ensures ∙ is))) (tells known).marks) (tells known)

pub returns-in-Some-get_mut-clause-tells : goal.returns-in-Some-get_mut-clause-tells
returns-in-Some-get_mut-clause-tells c = λ rows tells known.
    let x = c.args.self.now in
    let section = c.in-Some-get_mut.section.now in
    let own : slice_get x.sections.items c.in-Some.number ≡ Some section = search (rules, slice_get_read) in
    let now : c.clear.new.self ≡ empty_section (section.epoch + 1) = grind arith in
    rw now (Keeps-removal x.sections.items x.orders rows c.args.group c.args.kind c.in-Some.number section (sym c.section_number.ensures ∙ c.in-Some.is) own (tells (grind arith)))

pub returns-in_default-get_mut-clause-known : goal.returns-in_default-get_mut-clause-known
returns-in_default-get_mut-clause-known c =
    let x = c.args.self.now in
    let number : section_number c.args.group c.args.kind ≡ Some c.in-Some.number = sym c.section_number.ensures ∙ c.in-Some.is in
    let past : length x.sections.items ≤ c.in-Some.number = grind (arith, common_steps) in
    rw (number, slice_get_past x.sections.items c.in-Some.number past) (grind arith)

pub returns-in_default-get_mut-clause-tells : goal.returns-in_default-get_mut-clause-tells
returns-in_default-get_mut-clause-tells c = λ rows tells known.
    let x = c.args.self.now in
    rw (filter-no_section x.sections.items x.orders rows c.args.group c.args.kind (λ n is. grind (arith, common_steps)) (tells known).marks) (tells known)
