use Rattle.std.proofs.Common.{◌≡◌, Some, false, sym, ◌∙◌, arith, rules}
use Rattle.std.specs.List.{slice_get, list_all}
use Rattle.std.proofs.lemmas.Option.{slice_get_read, same_Some}
use Rattle.indexed.specs.Index.{agrees_with, Marks}
use Rattle.indexed.proofs.Keeping.{Keeps-addition}
use Rattle.indexed.proofs.Taking.{is_free-agrees, takes-is}
use Rattle.indexed.proofs.index.Index.enter.Goals as goal

pub returns-in_err-mark_order-clause-answer : goal.returns-in_err-mark_order-clause-answer
returns-in_err-mark_order-clause-answer c = λ rows keeps room.
    let x = c.args.self.now in
    let section = c.in_ok-epoch.field-0.now in
    let n = c.in_ok-section.section in
    let items = c.deref.ensures.value in
    let read = c.in_ok-epoch.ensures.lookup in
    let own : slice_get x.sections.items n ≡ Some section = search (rules, slice_get_read) in
    let along = is_free-agrees x.sections.items x.orders rows c.args.e.now n section (sym c.section_number.ensures ∙ c.in_ok-section.was) own keeps in
    let taken : list_all (agrees_with c.args.e.now) rows ≡ false = sym along ∙ rw (← c.deref-2.ensures.value) (sym (c.in_err-mark_order.ensures.answer room)) in
    rw c.from_residual-in_err-mark_order.ensures (grind arith)

pub returns-in_err-add-clause-answer : goal.returns-in_err-add-clause-answer
returns-in_err-add-clause-answer c = λ rows keeps room.
    let x = c.args.self.now in
    let section = c.in_ok-get_mut.field-0.now in
    let n = c.in_ok-section.section in
    let own : slice_get x.sections.items n ≡ Some section = search (rules, slice_get_read) in
    let takes = takes-is x.sections.items x.orders rows c.args.e.now n section (sym c.section_number.ensures ∙ c.in_ok-section.was) own c.in_err-add.ensures.types keeps in
    rw (c.from_residual-in_err-add.ensures, takes, ← c.in_err-add.ensures.answer) (grind arith)

pub returns-clause-answer : goal.returns-clause-answer
returns-clause-answer c = λ rows keeps room.
    let x = c.args.self.now in
    let section = c.in_ok-get_mut.field-0.now in
    let n = c.in_ok-section.section in
    let own : slice_get x.sections.items n ≡ Some section = search (rules, slice_get_read) in
    let takes = takes-is x.sections.items x.orders rows c.args.e.now n section (sym c.section_number.ensures ∙ c.in_ok-section.was) own c.in_ok-add.ensures.types keeps in
    let was : slice_get x.sections.items n ≡ Some c.in_ok-epoch.field-0.now = search rules in
    let same : c.in_ok-epoch.field-0.now ≡ section = same_Some _ _ (sym was ∙ own) in
    let marks : Marks x.sections.items c.args.e.now.order (record { section = n; epoch = section.epoch }) x.orders c.mark_order.new.orders = rw (← same, ← c.deref-2.ensures.value) c.in_ok-mark_order.ensures.marks in
    rw (takes, marks.free) c.in_ok-add.ensures.answer

pub returns-clause-keeps : goal.returns-clause-keeps
returns-clause-keeps c = λ rows keeps.
    let x = c.args.self.now in
    let section = c.in_ok-get_mut.field-0.now in
    let n = c.in_ok-section.section in
    let own : slice_get x.sections.items n ≡ Some section = search (rules, slice_get_read) in
    let was : slice_get x.sections.items n ≡ Some c.in_ok-epoch.field-0.now = search rules in
    let same : c.in_ok-epoch.field-0.now ≡ section = same_Some _ _ (sym was ∙ own) in
    let marks : Marks x.sections.items c.args.e.now.order (record { section = n; epoch = section.epoch }) x.orders c.mark_order.new.orders = rw (← same, ← c.deref-2.ensures.value) c.in_ok-mark_order.ensures.marks in
    Keeps-addition x.sections.items x.orders c.mark_order.new.orders rows c.args.e.now n section c.add.new.self (sym c.section_number.ensures ∙ c.in_ok-section.was) own c.in_ok-add.ensures.adds marks keeps
