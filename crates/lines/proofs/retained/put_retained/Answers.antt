use Rattle.std.proofs.Common.{length, ap, ◌∙◌, arith, rules, tests}
use Rattle.std.proofs.lemmas.Iterator.{YieldsList-from_slice, YieldsList-from_map}
use Rattle.std.proofs.lemmas.Iterator.Consumers.{YieldsList-at, YieldsList-from_filter}
use Rattle.octets.specs.Splice.{spliced}
use Rattle.families.specs.declared.family.Form.TheVariants.{Reply}
use Rattle.forms.proofs.Rows.{room-along, all-written}
use Rattle.groups.specs.Groups.{groups_of, totals_of}
use Rattle.lines.specs.Taking.{flagged}
use Rattle.lines.specs.Retained.{retained_of, totals_taken}
use Rattle.lines.proofs.Told.{says, replies-are}
use Rattle.lines.proofs.retained.put_retained.Goals as goal

pub put_forms_from-requires-clause-room : goal.put_forms_from-requires-clause-room
put_forms_from-requires-clause-room g c =
    let fs = g.F.Family.layout Reply in
    let gs = groups_of c.args.table.now in
    let ts = totals_of c.args.table.now in
    let all = replies-are fs c.args.broker c.args.date gs (totals_taken (flagged c.args.taken.now) ts) in
    room-along says fs
    (YieldsList-from_map _ (retained_of c.args.broker c.args.date gs)
    (YieldsList-at c.map-replies.ensures.source (YieldsList-from_filter _ (λ t. flagged c.args.taken.now t.group) (YieldsList-at c.filter.ensures.source (YieldsList-from_slice ts (c.iter.ensures.rest ∙ c.totals.ensures))) c.filter.ensures.closure (λ x b q k. search (rules, tests))))
    c.map-replies.ensures.closure (λ x r q k. search (rules, tests)))
    (length c.args.buf.now) (omega (arith, ap length all, c.requires))

pub returns : goal.returns
returns g c =
    let fs = g.F.Family.layout Reply in
    let gs = groups_of c.args.table.now in
    let ts = totals_of c.args.table.now in
    let all = replies-are fs c.args.broker c.args.date gs (totals_taken (flagged c.args.taken.now) ts) in
    all-written says fs
    (YieldsList-from_map _ (retained_of c.args.broker c.args.date gs)
    (YieldsList-at c.map-replies.ensures.source (YieldsList-from_filter _ (λ t. flagged c.args.taken.now t.group) (YieldsList-at c.filter.ensures.source (YieldsList-from_slice ts (c.iter.ensures.rest ∙ c.totals.ensures))) c.filter.ensures.closure (λ x b q k. search (rules, tests))))
    c.map-replies.ensures.closure (λ x r q k. search (rules, tests)))
    c.put_forms_from.new.buf c.args.buf.now c.put_forms_from.ensures.0 c.put_forms_from.ensures.1 c.put_forms_from.ensures.2
    ∙ ap (spliced c.args.buf.now 0) all
