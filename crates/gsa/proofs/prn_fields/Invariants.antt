-- What each turn of the loop keeps, and what falls.
use Prim.Native.Nat.{◌-◌}
use lib.ListN.{length}
use Rattle.gsa.proofs.Items.{Going}
use Rattle.gsa.proofs.prn_fields.Given as goal

abbrev pub invariant-loop-item : goal.invariant-loop-item
invariant-loop-item l = Going l.s l.at l.items l.count l.passed l.i

abbrev pub decreases-loop-item : goal.decreases-loop-item
decreases-loop-item l = length l.s - l.i
