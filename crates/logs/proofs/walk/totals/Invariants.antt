-- What each turn of the loop keeps, and what falls.
use Rattle.std.proofs.Common.{◌-◌, length}
use Rattle.logs.proofs.Counting.{Counting}
use Rattle.logs.proofs.walk.totals.Given as goal

abbrev pub invariant-loop-c : goal.invariant-loop-c
invariant-loop-c l = Counting l.log l.c l.heads

abbrev pub decreases-loop-c : goal.decreases-loop-c
decreases-loop-c l = length l.log - l.c.next
