use Rattle.std.proofs.Common.{◌≡◌, ◌*◌, ◌≤◌, length, unwrap_or, None, sym, ap, ◌∙◌, arith}
use Rattle.layout.specs.Layouts.{width_of}
use Rattle.families.specs.Accounts.{account_of}
use Rattle.families.specs.Parts.{RetentionParts, retention_by}
use Rattle.families.specs.declared.family.Form.TheVariants.{Reply}
use Rattle.forms.proofs.Fits.{width-at}
use Rattle.groups.specs.Groups.{groups_of, totals_of}
use Rattle.judge.specs.Grounds.{first_of}
use Rattle.judge.specs.Heading.{retention_grounds}
use Rattle.judge.proofs.Firsts.{here, later, handed}
use Rattle.lines.specs.Taking.{flagged, taken_at}
use Rattle.lines.specs.Retained.{totals_taken}
use Rattle.lines.proofs.RetainedLengths.{length-replies}
use Rattle.book.specs.Book.{Book}
use Rattle.book.specs.Lines.{taken_of, totals_answered, taking_grounds, retention_grounds_in}
use Rattle.book.proofs.Judged.{retention_room}
use Rattle.book.proofs.day.Day.retain.Goals as goal

pub returns-in_err-account-clause-judged : goal.returns-in_err-account-clause-judged
returns-in_err-account-clause-judged g c =
    let b : Book = c.args.self.now in
    let p : RetentionParts = retention_by c.args.retention in
    let clock = c.args.clock in
    let d = c.basis.ensures in
    handed c.from_residual.result _ c.from_residual.ensures.1
    ∙ here (retention_grounds b.opened b.rules b.groups p clock) (taking_grounds b (taken_of b p) (length c.args.replies.now)) (c.in_err-account.ensures.judged ∙ (λ j. first_of (retention_grounds (d.opened j) (d.rules j) (d.groups j) p clock)))

pub returns-in_err-judge_taking-clause-judged : goal.returns-in_err-judge_taking-clause-judged
returns-in_err-judge_taking-clause-judged g c =
    let b : Book = c.args.self.now in
    let p : RetentionParts = retention_by c.args.retention in
    let clock = c.args.clock in
    let space = length c.args.replies.now in
    let d = c.basis.ensures in
    let day = c.self.view_is in
    let account : c.in_ok-account.account ≡ unwrap_or (account_of p.account) 0 = sym (ap (λ o. unwrap_or o 0) c.in_ok-account.ensures.account) in
    let flags = c.taken_by-taken.ensures ∙ (λ j. taken_at (day j).groups (day j).totals (day j).rows (account j)) in
    let names = c.in_ok-account.ensures.judged ∙ (λ j. first_of (retention_grounds (d.opened j) (d.rules j) (d.groups j) p clock)) in
    handed c.from_residual-in_err-judge_taking.result _ c.from_residual-in_err-judge_taking.ensures.1
    ∙ later (retention_grounds b.opened b.rules b.groups p clock) (taking_grounds b (taken_of b p) space) names (c.in_err-judge_taking.ensures ∙ (λ j. first_of (taking_grounds b (flags j) space)))

pub returns-clause-judged : goal.returns-clause-judged
returns-clause-judged g c =
    let b : Book = c.args.self.now in
    let p : RetentionParts = retention_by c.args.retention in
    let clock = c.args.clock in
    let space = length c.args.replies.now in
    let d = c.basis.ensures in
    let day = c.self.view_is in
    let account : c.in_ok-account.account ≡ unwrap_or (account_of p.account) 0 = sym (ap (λ o. unwrap_or o 0) c.in_ok-account.ensures.account) in
    let flags = c.taken_by-taken.ensures ∙ (λ j. taken_at (day j).groups (day j).totals (day j).rows (account j)) in
    let names = c.in_ok-account.ensures.judged ∙ (λ j. first_of (retention_grounds (d.opened j) (d.rules j) (d.groups j) p clock)) in
    later (retention_grounds b.opened b.rules b.groups p clock) (taking_grounds b (taken_of b p) space) names (c.in_ok-judge_taking.ensures ∙ (λ j. first_of (taking_grounds b (flags j) space)))

pub put_retained-requires : goal.put_retained-requires
put_retained-requires g c =
    let b : Book = c.args.self.now in
    let p : RetentionParts = retention_by c.args.retention in
    let table = c.self.inside.table in
    let clock = c.args.clock in
    let space = length c.args.replies.now in
    let d = c.basis.ensures in
    let day = c.self.view_is in
    let account : c.in_ok-account.account ≡ unwrap_or (account_of p.account) 0 = sym (ap (λ o. unwrap_or o 0) c.in_ok-account.ensures.account) in
    let flags : flagged c.taken_by-taken.result ≡ taken_of b p = c.taken_by-taken.ensures ∙ (λ j. taken_at (day j).groups (day j).totals (day j).rows (account j)) in
    let names = c.in_ok-account.ensures.judged ∙ (λ j. first_of (retention_grounds (d.opened j) (d.rules j) (d.groups j) p clock)) in
    let none : None ≡ first_of (retention_grounds_in b p clock space) = later (retention_grounds b.opened b.rules b.groups p clock) (taking_grounds b (taken_of b p) space) names (c.in_ok-judge_taking.ensures ∙ (λ j. first_of (taking_grounds b (flags j) space))) in
    let room : length (totals_answered b p) * b.records.reply_length ≤ space = retention_room b p clock space (sym none) in
    let count : length (totals_taken (flagged c.taken_by-taken.result) (totals_of table)) * g.F.Family.extent Reply ≡ length (totals_answered b p) * b.records.reply_length =
    λ j. length (totals_taken (flags j) (day j).totals) * (day j).records.reply_length in
    let long = length-replies (g.F.Family.layout Reply) c.self.inside.opened.broker c.self.inside.opened.date (groups_of table) (totals_taken (flagged c.taken_by-taken.result) (totals_of table)) in
    let wide : width_of (g.F.Family.layout Reply) ≡ g.F.Family.extent Reply = width-at g.F.Family.layout g.F.Family.extent g.met.F.Family.fit Reply in
    let same : length (totals_taken (flagged c.taken_by-taken.result) (totals_of table)) * width_of (g.F.Family.layout Reply) ≡ length (totals_taken (flagged c.taken_by-taken.result) (totals_of table)) * g.F.Family.extent Reply =
    λ j. length (totals_taken (flagged c.taken_by-taken.result) (totals_of table)) * wide j in
    omega (arith, long, same, count, room)
