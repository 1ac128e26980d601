-- A filing to which no ground applies has room.
use Rattle.std.proofs.Common.{◌≡◌, ℕ, ◌≤◌, List, None, subst, sym}
use Rattle.layout.specs.Layouts.{width_of}
use Rattle.families.specs.declared.figures.Filed.{Filed}
use Rattle.groups.specs.Sums.{SharesFit, CentsFit}
use Rattle.judge.specs.Grounds.{first_of}
use Rattle.judge.specs.declared.heading.Target.{Target}
use Rattle.lines.specs.Enter.{AreHeld, Fits}
use Rattle.lines.specs.declared.entering.Accepted.{Accepted}
use Rattle.lines.proofs.Fitting.{fits}
use Rattle.book.specs.Book.{Book}
use Rattle.book.specs.Lines.{filed_grounds, accepted_as}
use Rattle.book.proofs.Passed.{accepted}

-- what holds of every day: its family's laws, and that its totals fit
pub record Lawful (b : Book) : Type 0 where
  pub few : b.rules.most_units.count ≤ 10000
  pub wide : b.records.reply_length ≡ width_of b.records.reply
  pub shares : SharesFit b.totals
  pub cents : CentsFit b.totals

module _ (b : Book) (t : Target) (f : Filed) (a : Accepted) (is : a ≡ accepted_as b t f) where
  pub filing_held : AreHeld b.rows a.entering a.survey
  filing_held =
      let here : AreHeld b.rows (accepted_as b t f).entering (accepted_as b t f).survey = record { held = λ i. (accepted_as b t f).survey.held; of_type = λ i. (accepted_as b t f).survey.of_type } in
      subst (λ x. AreHeld b.rows x.entering x.survey) (sym is) here

  pub filing_fits : (line : List ℕ) (space : ℕ) → first_of (filed_grounds b f space t) ≡ None → Lawful b → Fits b.rows b.capacity a.entering a.wanted a.next b.records.reply line a.completes space
  filing_fits line space none lawful =
      let met = accepted b t f space none in
      let made = accepted_as b t f in
      let here : Fits b.rows b.capacity made.entering made.wanted made.next b.records.reply line made.completes space =
      fits b.totals b.rows b.rules t f b.capacity b.next b.records.reply line made.completes space b.records.reply_length lawful.few lawful.shares lawful.cents lawful.wide met.terms met.room in
      subst (λ x. Fits b.rows b.capacity x.entering x.wanted x.next b.records.reply line x.completes space) (sym is) here
