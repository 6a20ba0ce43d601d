-- What each turn of the loop keeps.
use Prim.Native.Nat.{◌+◌, ◌*◌, ◌^◌, ◌≤◌, ◌<◌, max}
use mathlib.Core.Path.{◌≡◌}
use lib.ListN.{length, drop}
use Rattle.decimal.specs.Code.{run}
use Rattle.decimal.proofs.digits.Given as goal

abbrev pub invariant-loop-i : goal.invariant-loop-i
invariant-loop-i l =
    (l.at ≤ l.i) × (l.i ≤ max l.at (length l.s)) × (l.n ≤ l.most) × (l.v < (l.value + 1) * 10 ^ l.n)
    × (run l.most l.value 0 (drop l.at l.s) ≡ run l.most l.v l.n (drop l.i l.s))
