-- What judging a filing answers. Assumes nothing.
use Rattle.std.specs.Prelude.{ℕ, List, Ok, Err, Result}
use Rattle.lots.specs.declared.units.Cents.{Cents}
use Rattle.preview.specs.Judge.{judgement}
use Rattle.preview.specs.Words.{question_of}
use Rattle.preview.specs.declared.accepted.Filing.{Filing}
use Rattle.preview.specs.declared.refusals.Refusal.{Refusal}
use Rattle.preview.specs.declared.asked.FilingTerms.{FilingTerms}

-- an accepted filing by its terms
abbrev pub outcome : Result Filing Refusal → Result (FilingTerms Cents) Refusal
outcome (Ok f) = Ok f.terms
outcome (Err e) = Err e

-- the filing that five words tell, judged
abbrev pub filing_of : List ℕ → List ℕ → List ℕ → List ℕ → List ℕ → Result (FilingTerms Cents) Refusal
filing_of family kind unit quantity amount = elim (question_of family kind unit quantity amount) [ Ok q ↦ judgement q | Err e ↦ Err e ]
