-- What each turn of the loop keeps, and what falls.
use Prim.Native.Nat.{◌≤◌, ◌-◌, max}
use mathlib.Core.Path.{◌≡◌}
use lib.ListN.{length, drop}
use lib.Seq.{slice}
use Rattle.text.specs.Reader.{prepend, until}
use Rattle.text.proofs.until.Given as goal

abbrev pub invariant-loop-i : goal.invariant-loop-i
invariant-loop-i l =
    (l.at ≤ l.i) × (l.i ≤ max l.at (length l.s)) × (until l.b (drop l.at l.s) ≡ prepend (slice l.at l.i l.s) (until l.b (drop l.i l.s)))

abbrev pub decreases-loop-i : goal.decreases-loop-i
decreases-loop-i l = length l.s - l.i
