-- What each answer of the code says.
use Rattle.std.specs.Prelude.{◌≡◌, ℕ, List, Option, Some, None, Result, Ok, Err}
use Rattle.std.proofs.Math.Option.{Option as Maybe}
use Rattle.frame.specs.Answer.{refused as refusal}
use Rattle.frame.specs.declared.refusal.Refusal.{Refusal}
use Rattle.gsv.specs.Gsv.{GsvSentence}
use Rattle.sentence.specs.Answer.{answer_of}
use Rattle.sentence.specs.declared.Record.{Record}
use Rattle.gather.specs.declared.line.Outcome.{Outcome}
use Rattle.gather.specs.declared.line.Outcome.TheVariants.{Nothing}
use Rattle.fed.specs.Line.{LogLine, blank, read, gathers}
use Rattle.logs.specs.Step.{Step, refused, end, line, Stepped}
use Rattle.logs.specs.Walk.{Walk, barred, went, Walked}
use Rattle.logs.specs.declared.step.Stepped as CodeStep
use Rattle.logs.specs.declared.step.Stepped.TheVariants as stepped
use Rattle.logs.specs.declared.walk.Counts.{Counts}

abbrev pub line_in : Option (Result Record Refusal) → LogLine
line_in None = blank
line_in (Some r) = read (answer_of r)

-- the words after a line that is this GSV sentence, or none, and what is said of its row
pub record Follows (x : Maybe GsvSentence) (t t' : List ℕ) (r : Outcome) : Type 0 where
  pub words : t' ≡ (gathers t x).gatherer
  pub says : r ≡ (gathers t x).handed

abbrev pub step_in : Result CodeStep.Stepped Refusal → Step
step_in (Err r) = refused (refusal r)
step_in (Ok (stepped.End p)) = end p
step_in (Ok (stepped.Line l o p)) = line (line_in l) p

-- what a step says of a row: only a line says anything
abbrev pub handed_in : Result CodeStep.Stepped Refusal → Outcome
handed_in (Err r) = Nothing
handed_in (Ok (stepped.End p)) = Nothing
handed_in (Ok (stepped.Line l o p)) = o

pub record SaysStep (s : Stepped) (after : List ℕ) (r : Result CodeStep.Stepped Refusal) : Type 0 where
  pub says : step_in r ≡ s.answer
  pub gathered : record { gatherer = after; handed = handed_in r } ≡ s.gathered

abbrev pub walk_in : Result Counts Refusal → Walk
walk_in (Err r) = barred (refusal r)
walk_in (Ok c) = went c

pub record SaysWalk (w : Walked) (after : List ℕ) (r : Result Counts Refusal) : Type 0 where
  pub says : walk_in r ≡ w.answer
  pub gatherer : after ≡ w.gatherer
