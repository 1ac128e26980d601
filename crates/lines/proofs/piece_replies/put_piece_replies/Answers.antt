use Rattle.std.proofs.Common.{length, ap, ◌∙◌, arith, rules, tests}
use Rattle.std.proofs.lemmas.Iterator.{YieldsList-from_slice, YieldsList-from_map}
use Rattle.std.proofs.lemmas.Iterator.Consumers.{YieldsList-at, YieldsList-from_enumerate}
use Rattle.octets.specs.Splice.{spliced}
use Rattle.families.specs.declared.family.Form.TheVariants.{Reply}
use Rattle.forms.proofs.Rows.{room-along, all-written}
use Rattle.lines.proofs.Chains.{says, reply, replies-from}
use Rattle.lines.proofs.piece_replies.put_piece_replies.Goals as goal

pub put_forms_from-requires-clause-room : goal.put_forms_from-requires-clause-room
put_forms_from-requires-clause-room g c =
    let fs = g.F.Family.layout Reply in
    let xs = c.args.entries.now in
    let all = replies-from c.args.line c.args.each c.args.completes (length xs) fs 0 xs (omega arith) in
    room-along says fs
    (YieldsList-from_map _ (reply c.args.line c.args.each c.args.completes (length xs))
    (YieldsList-at c.map-replies.ensures.source (YieldsList-from_enumerate (YieldsList-at c.enumerate.ensures.source (YieldsList-from_slice xs c.iter.ensures.rest)) c.enumerate.ensures.count))
    c.map-replies.ensures.closure (λ x r q k. search (rules, tests)))
    (length c.args.buf.now) (omega (arith, ap length all, c.requires.room))

pub returns : goal.returns
returns g c =
    let fs = g.F.Family.layout Reply in
    let xs = c.args.entries.now in
    let all = replies-from c.args.line c.args.each c.args.completes (length xs) fs 0 xs (omega arith) in
    all-written says fs
    (YieldsList-from_map _ (reply c.args.line c.args.each c.args.completes (length xs))
    (YieldsList-at c.map-replies.ensures.source (YieldsList-from_enumerate (YieldsList-at c.enumerate.ensures.source (YieldsList-from_slice xs c.iter.ensures.rest)) c.enumerate.ensures.count))
    c.map-replies.ensures.closure (λ x r q k. search (rules, tests)))
    c.put_forms_from.new.buf c.args.buf.now c.put_forms_from.ensures.0 c.put_forms_from.ensures.1 c.put_forms_from.ensures.2
    ∙ ap (spliced c.args.buf.now 0) all
