-- What each turn of the loop keeps, and what falls.
use Prim.Native.Nat.{◌-◌, ◌≤◌}
use mathlib.Core.Path.{◌≡◌}
use lib.ListN.{length, drop}
use Rattle.text.specs.Bytes.{byte}
use Rattle.text.specs.Many.{skip}
use Rattle.gsa.proofs.commas.Given as goal

abbrev pub invariant-loop-i : goal.invariant-loop-i
invariant-loop-i l =
    (l.first ≤ l.i) × (l.i ≤ length l.s) × (skip (byte ",") (drop l.first l.s) ≡ skip (byte ",") (drop l.i l.s))

abbrev pub decreases-loop-i : goal.decreases-loop-i
decreases-loop-i l = length l.s - l.i
