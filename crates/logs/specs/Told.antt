-- A log's lines, as they are read and as the theory of groups sees them, and the steps from its first line on.
use Rattle.std.specs.Prelude.{◌≡◌, ℕ, List}
use Rattle.std.proofs.Math.Option.{Option, none, some}
use Rattle.gsv.specs.Gsv.{Satellite, GsvSentence}
use Rattle.groups.specs.Log.{Line, Handed}
use Rattle.lines.specs.Lines.{lines}
use Rattle.gather.specs.Table.{fresh_table}
use Rattle.fed.specs.Line.{LogLine, said_all, accepted_gsv, Gatherer}
use Rattle.fed.specs.Seen.{seen_of, given_by}
use Rattle.logs.specs.Step.{Step, refused, end, line, Stepped, step_at}
use Rattle.logs.specs.Walk.{begin, steps}

-- what each line is
abbrev pub says : List ℕ → List LogLine
says log = said_all (lines log)

abbrev pub told : List ℕ → List (Line Satellite)
told log = seen_of (says log)

-- the step after i steps, "place 0 and a fresh gatherer" before the first
abbrev pub after : (ℕ → Gatherer → Stepped) → ℕ → Stepped
after step i =
    let w = steps step i (begin 0 fresh_table) in
    step w.counts.next w.gatherer

-- of a log of any length
abbrev pub step_after : ℕ → List ℕ → Stepped
step_after i log = after (step_at log) i

-- the line that a step answers
abbrev pub line_in : Step → Option LogLine
line_in (refused r) = none
line_in (end p) = none
line_in (line s p) = some s

-- the accepted GSV sentence that a step answers, and the group that it hands out
abbrev pub gsv_in : Step → Option GsvSentence
gsv_in (refused r) = none
gsv_in (end p) = none
gsv_in (line s p) = accepted_gsv s

abbrev pub Gives : Stepped → Handed Satellite → Type 0
Gives s h = given_by (gsv_in s.answer) s.gathered ≡ some h
