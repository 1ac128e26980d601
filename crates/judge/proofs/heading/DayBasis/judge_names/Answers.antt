use Rattle.std.proofs.Common.{◌∙◌}
use Rattle.families.specs.Parts.{HeadingParts, heading_by}
use Rattle.groups.specs.Groups.{groups_of}
use Rattle.judge.specs.Heading.{heading_grounds, group_grounds}
use Rattle.judge.proofs.Firsts.{here, later, handed}
use Rattle.judge.proofs.heading.DayBasis.judge_names.Goals as goal

pub returns-in_err-own-clause-judged : goal.returns-in_err-own-clause-judged
returns-in_err-own-clause-judged c =
    let day = c.args.self in
    let h : HeadingParts = heading_by c.args.heading in
    handed c.from_residual.result _ c.from_residual.ensures.1
    ∙ here (heading_grounds day.opened day.rules h c.args.clock) (group_grounds day.rules (groups_of day.table.now) h.group) c.in_err-own.ensures.judged

pub returns-in_err-place-clause-judged : goal.returns-in_err-place-clause-judged
returns-in_err-place-clause-judged c =
    let day = c.args.self in
    let h : HeadingParts = heading_by c.args.heading in
    handed c.from_residual-in_err-place.result _ c.from_residual-in_err-place.ensures.1
    ∙ later (heading_grounds day.opened day.rules h c.args.clock) (group_grounds day.rules (groups_of day.table.now) h.group) c.in_ok-own.ensures.judged c.in_err-place.ensures.judged
