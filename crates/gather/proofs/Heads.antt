-- A run by its head: a line goes on with it, or starts one, by the same tests as with a run that has entries. Assumes nothing.
use mathlib.Core.Path.{◌≡◌, refl}
use mathlib.Core.List.{[]}
use mathlib.Core.Bool.{Bool, true, false, ◌&&◌, cond}
use mathlib.Core.Option.{none, some}
use lib.Dec.{eqb, leb}
use Rattle.groups.specs.Log.{line_max}
use Rattle.groups.specs.Step.{Open, onward, sofar}
use Rattle.gsv.specs.Gsv.{Satellite, Head}
use Rattle.gather.specs.Heads.{head_line, run_stands, run_meant}
use Rattle.gather.specs.Code.{runs_on}
use Rattle.gather.specs.declared.run.Run.{Run}

module _ (r : Run) (h : Head) where
  abbrev range : Bool
  range = leb 1 h.count && leb h.count line_max

  abbrev tests : Bool
  tests = eqb h.count r.n && (eqb h.index r.next && eqb h.view r.view)

  abbrev open' : Open Satellite
  open' = record { n = r.n; next = r.next; view = r.view; sats = [] }

  -- no entries before the line, where it goes on or starts
  pub before-is : sofar (run_meant r) (head_line h) ≡ cond (runs_on r h) (some []) none
  before-is = by (eqb h.index 1) (run_stands r)
    where
      by : (one s : Bool) → cond one (cond range (some []) none) (onward (cond s (some open') none) (head_line h)) ≡ cond (cond one range (s && tests)) (some []) none
      by true s = refl
      by false true = refl
      by false false = refl
