-- What each turn of the loop keeps, and what falls.
use Prim.Native.Nat.{◌-◌, ◌≤◌}
use mathlib.Core.Path.{◌≡◌}
use lib.ListN.{length, drop}
use Rattle.text.specs.Number.{number, number_from}
use Rattle.text.proofs.number.Given as goal

abbrev pub invariant-loop-i : goal.invariant-loop-i
invariant-loop-i l =
    (l.at ≤ l.i) × (l.i ≤ length l.s) × (l.value ≤ l.max) × (l.top ≡ l.max) × (number l.max (drop l.at l.s) ≡ number_from l.max l.value (drop l.i l.s))

abbrev pub decreases-loop-i : goal.decreases-loop-i
decreases-loop-i l = length l.s - l.i
