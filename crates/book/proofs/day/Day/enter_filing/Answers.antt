use Rattle.std.proofs.Common.{◌+◌, ◌++◌, length, sym, subst, ◌∙◌, leb-true}
use Rattle.octets.specs.Splice.{spliced}
use Rattle.families.specs.declared.family.Form.TheVariants.{Reply}
use Rattle.forms.proofs.Fits.{width-at}
use Rattle.judge.specs.Wanted.{count_of}
use Rattle.lines.specs.Entries.{each_of}
use Rattle.lines.specs.PieceReplies.{piece_replies}
use Rattle.lines.specs.Enter.{AreHeld, Fits, entries_in}
use Rattle.book.specs.Book.{Book}
use Rattle.book.proofs.Entering.{Lawful, filing_held, filing_fits}
use Rattle.book.proofs.day.Day.enter_filing.Goals as goal

pub enter-n-requires-clause-held : goal.enter-n-requires-clause-held
enter-n-requires-clause-held g c =
    let a = c.args.accepted in
    subst (λ (x : Book). AreHeld x.rows a.entering a.survey) (sym c.self.view_is) (filing_held c.args.self.now c.args.target c.args.filed a c.requires.accepted)

pub enter-n-requires-clause-room : goal.enter-n-requires-clause-room
enter-n-requires-clause-room g c =
    let a = c.args.accepted in
    let space = length c.args.replies.now in
    let lawful : Lawful c.args.self.now = subst Lawful c.self.view_is (record {
      few = leb-true _ _ g.met.F.Family.few;
      wide = sym (width-at g.F.Family.layout g.F.Family.extent g.met.F.Family.fit Reply);
      shares = c.self.inside.table.shares_fit;
      cents = c.self.inside.table.cents_fit;
    }) in
    let fits = filing_fits c.args.self.now c.args.target c.args.filed a c.requires.accepted c.args.line.now space c.requires.judged lawful in
    subst (λ (x : Book). Fits x.rows x.capacity a.entering a.wanted a.next x.records.reply c.args.line.now a.completes space) (sym c.self.view_is) fits

pub returns-clause-after : goal.returns-clause-after
returns-clause-after g c =
    let is = c.requires.accepted in
    let day = c.self.view_is in
    λ k. record {
      rules = (day k).rules;
      records = (day k).records;
      opened = (day k).opened;
      next = (day k).next + (c.enter-n.ensures.answer ∙ (λ j. count_of (is j).wanted)) k;
      groups = (day k).groups;
      totals = (day k).totals;
      rows = (c.enter-n.ensures.list ∙ (λ j. (day j).rows ++ entries_in (day j).rows (is j).entering (is j).next (is j).wanted)) k;
      capacity = (c.enter-n.ensures.same ∙ (λ j. (day j).capacity)) k;
      lent = (c.enter-n.ensures.kept ∙ (λ j. (day j).lent)) k;
    }

pub returns-clause-memory : goal.returns-clause-memory
returns-clause-memory g c =
    let is = c.requires.accepted in
    let day = c.self.view_is in
    c.enter-n.ensures.memory ∙ (λ j. spliced c.args.replies.now 0
    (piece_replies (day j).records.reply c.args.line.now (each_of (is j).entering) (is j).completes
    (entries_in (day j).rows (is j).entering (is j).next (is j).wanted)))
