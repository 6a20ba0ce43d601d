-- What each turn of the loop keeps, and what falls.
use Rattle.std.proofs.Common.{◌≡◌, ◌+◌, ◌-◌, length, drop}
use Rattle.lines.specs.Places.{stretch}
use Rattle.logs.proofs.line.skip.Given as goal

abbrev pub invariant-loop-i : goal.invariant-loop-i
invariant-loop-i l = l.at + length (stretch (drop l.at l.log)) ≡ l.i + length (stretch (drop l.i l.log))

abbrev pub decreases-loop-i : goal.decreases-loop-i
decreases-loop-i l = length l.log - l.i
