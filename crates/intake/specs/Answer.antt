-- What the answer of the code says.
use Rattle.std.specs.Prelude.{◌≡◌, ℕ, List, Option, Some, None, Result, Ok, Err}
use Rattle.frame.specs.Answer.{refused}
use Rattle.frame.specs.declared.refusal.Refusal.{Refusal}
use Rattle.gsv.specs.Answer.{talker, head_of}
use Rattle.answer.specs.Sentence.{Answer}
use Rattle.gather.specs.declared.line.Outcome.{Outcome}
use Rattle.gather.specs.declared.line.Outcome.TheVariants.{Nothing}
use Rattle.fed.specs.Line.{gathers}
use Rattle.words.specs.Words.{words, into}
use Rattle.intake.specs.Brief.{Brief, accepted, gsv_line, refusal, brief_of, gsv_in}
use Rattle.intake.specs.declared.GsvLine.{GsvLine}

abbrev pub brief : Result (Option GsvLine) Refusal → Brief
brief (Ok None) = accepted
brief (Ok (Some g)) = gsv_line (talker g.talker) (head_of g.head)
brief (Err r) = refusal (refused r)

-- what the line did to its row
abbrev pub outcome_of : Result (Option GsvLine) Refusal → Outcome
outcome_of (Ok None) = Nothing
outcome_of (Ok (Some g)) = g.outcome
outcome_of (Err r) = Nothing

-- an answer, a buffer and a table before and after
pub record Takes (a : Answer) (out out' t t' : List ℕ) (r : Result (Option GsvLine) Refusal) : Type 0 where
  pub says : brief r ≡ brief_of a
  pub words : out' ≡ into (words a) out
  pub table : t' ≡ (gathers t (gsv_in a)).gatherer
  pub handed : outcome_of r ≡ (gathers t (gsv_in a)).handed
