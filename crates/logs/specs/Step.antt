-- One step at a place.
use Rattle.std.specs.Prelude.{ℕ, cond, List, length, ◌==◌, nat_lt}
use Rattle.frame.specs.Refused.{Refused, log_too_long, bad_place}
use Rattle.lines.specs.Places.{is_place, line_at, next_place}
use Rattle.fed.specs.Line.{LogLine, said_of, accepted_gsv, Gatherer, Gathered, untouched, gathers}

-- "a log has at most 65,536 bytes"
abbrev pub longest : ℕ
longest = 65536

-- a refusal alone, the end, or a line and the next place
pub data Step : Type 0 where
  refused : Refused → Step
  end : ℕ → Step
  line : LogLine → ℕ → Step

-- what a step answers, and what it does to the gatherer
pub record Stepped : Type 0 where
  pub answer : Step
  pub gathered : Gathered

abbrev pub idle : Step → Gatherer → Stepped
idle s g = record { answer = s; gathered = untouched g }

-- "one step answers a line, at most one group, and the next place. At the length it answers End, with place and gatherer unchanged"
unfoldable pub step_at : List ℕ → ℕ → Gatherer → Stepped
step_at log p g =
    cond (p == length log) (idle (end p) g)
    (record { answer = line (said_of (line_at log p)) (next_place log p); gathered = gathers g (accepted_gsv (said_of (line_at log p))) })

-- "check 12, then 13; both answer with the refusal alone"
unfoldable pub step_of : List ℕ → ℕ → Gatherer → Stepped
step_of log p g =
    cond (nat_lt longest (length log)) (idle (refused (log_too_long (length log))) g)
    (cond (is_place log p) (step_at log p g) (idle (refused (bad_place p)) g))
