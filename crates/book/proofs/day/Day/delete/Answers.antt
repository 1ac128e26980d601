use Rattle.std.proofs.Common.{cond, not, nat_eq, Some, None, sym, ap, ◌∙◌}
use Rattle.families.specs.Parts.{heading_by}
use Rattle.groups.specs.Groups.{some}
use Rattle.judge.specs.declared.grounds.Ground.TheVariants.{NoRow}
use Rattle.judge.proofs.Firsts.{handed, unless}
use Rattle.book.specs.Book.{Book}
use Rattle.book.specs.Lines.{of_target, row_grounds}
use Rattle.book.proofs.Deleting.{some-went, struck-none, denied, came-refused}
use Rattle.book.proofs.Judged as judged
use Rattle.book.proofs.day.Day.delete.Goals as goal

pub returns-in_err-target-clause-judged : goal.returns-in_err-target-clause-judged
returns-in_err-target-clause-judged g c =
    let b : Book = c.args.self.now in
    handed c.from_residual.result _ c.from_residual.ensures.1 ∙ judged.of_names b (heading_by c.args.deletion) c.args.clock (row_grounds b) c.in_err-target.ensures.judged

pub returns-in_err-ensure-clause-judged : goal.returns-in_err-ensure-clause-judged
returns-in_err-ensure-clause-judged g c =
    let b : Book = c.args.self.now in
    let t = c.in_ok-target.target in
    let found = some-went b t c.strike.result c.strike.ensures.answer c.strike.ensures.after in
    let last = c.in_err-ensure.ensures ∙ ap (λ x. cond x None (Some NoRow)) found ∙ unless (some (of_target t) b.rows) NoRow in
    handed c.from_residual-in_err-ensure.result _ c.from_residual-in_err-ensure.ensures.1
    ∙ judged.of_target b (heading_by c.args.deletion) c.args.clock (row_grounds b) t c.in_ok-target.ensures.target c.in_ok-target.ensures.judged last

pub returns-in_err-ensure-clause-came : goal.returns-in_err-ensure-clause-came
returns-in_err-ensure-clause-came g c =
    let b : Book = c.args.self.now in
    let t = c.in_ok-target.target in
    let found = some-went b t c.strike.result c.strike.ensures.answer c.strike.ensures.after in
    let none = sym found ∙ denied (not (nat_eq c.strike.result 0)) NoRow _ c.in_err-ensure.ensures in
    came-refused c.from_residual-in_err-ensure.result _ _ b _ _ c.from_residual-in_err-ensure.ensures.1 (c.strike.ensures.after ∙ struck-none b t none)

pub returns-clause-judged : goal.returns-clause-judged
returns-clause-judged g c =
    let b : Book = c.args.self.now in
    let t = c.in_ok-target.target in
    let found = some-went b t c.strike.result c.strike.ensures.answer c.strike.ensures.after in
    let last = c.in_ok-ensure.ensures ∙ ap (λ x. cond x None (Some NoRow)) found ∙ unless (some (of_target t) b.rows) NoRow in
    judged.of_target b (heading_by c.args.deletion) c.args.clock (row_grounds b) t c.in_ok-target.ensures.target c.in_ok-target.ensures.judged last
