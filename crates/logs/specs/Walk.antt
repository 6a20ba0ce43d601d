-- A walk: as many steps as it may take, or as there are lines left, counted.
use Rattle.std.specs.Prelude.{ℕ, zero, suc, ◌+◌, min, Bool, true, false, cond, List, length, drop, nat_lt}
use Rattle.frame.specs.Refused.{Refused, log_too_long, bad_place}
use Rattle.lines.specs.Lines.{lines}
use Rattle.lines.specs.Places.{is_place}
use Rattle.fed.specs.Line.{LogLine, is_blank, is_accepted, is_refusal, Gatherer, Gathered}
use Rattle.fed.specs.Fed.{once_if, is_handed}
use Rattle.logs.specs.Step.{longest, Step, refused, end, line, Stepped, step_of}
use Rattle.logs.specs.declared.walk.Counts.{Counts}

abbrev pub tallied : Counts → LogLine → ℕ → Counts
tallied c said next =
    record {
      lines = c.lines + 1;
      blank = c.blank + once_if (is_blank said);
      accepted = c.accepted + once_if (is_accepted said);
      refused = c.refused + once_if (is_refusal said);
      groups = c.groups;
      next = next;
    }

-- where a group is handed out, one group more
abbrev pub grouped : Counts → Bool → Counts
grouped c false = c
grouped c true =
    record {
      lines = c.lines;
      blank = c.blank;
      accepted = c.accepted;
      refused = c.refused;
      groups = c.groups + 1;
      next = c.next;
    }

-- how far a walk has come
pub record Going : Type 0 where
  pub counts : Counts
  pub gatherer : Gatherer

-- a step's answer, counted; only a line counts
abbrev pub counted : Going → Gathered → Step → Going
counted w a (line said next) = record { counts = grouped (tallied w.counts said next) (is_handed a.handed); gatherer = a.gatherer }
counted w a (end p) = w
counted w a (refused r) = w

-- on by one step, whatever answers it
abbrev pub onward : (ℕ → Gatherer → Stepped) → Going → Going
onward step w =
    let s = step w.counts.next w.gatherer in
    counted w s.gathered s.answer

unfoldable pub steps : (ℕ → Gatherer → Stepped) → ℕ → Going → Going
steps step zero w = w
steps step (suc k) w = steps step k (onward step w)

-- before its first step
abbrev pub begin : ℕ → Gatherer → Going
begin p g = record { counts = record { lines = 0; blank = 0; accepted = 0; refused = 0; groups = 0; next = p }; gatherer = g }

-- a refusal alone, or the counts
pub data Walk : Type 0 where
  barred : Refused → Walk
  went : Counts → Walk

pub record Walked : Type 0 where
  pub answer : Walk
  pub gatherer : Gatherer

abbrev pub gone : Going → Walked
gone w = record { answer = went w.counts; gatherer = w.gatherer }

-- "it takes the smaller of that allowance and the lines left, and equals that many steps, next place and gatherer included"
unfoldable pub walk_of : List ℕ → ℕ → ℕ → Gatherer → Walked
walk_of log p allowance g =
    cond (nat_lt longest (length log)) (record { answer = barred (log_too_long (length log)); gatherer = g })
    (cond (is_place log p) (gone (steps (step_of log) (min allowance (length (lines (drop p log)))) (begin p g)))
    (record { answer = barred (bad_place p); gatherer = g }))
