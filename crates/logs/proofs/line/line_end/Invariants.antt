-- What each turn of the loop keeps.
use Rattle.std.proofs.Common.{◌≡◌, ◌+◌, length, drop}
use Rattle.lines.specs.Places.{stretch}
use Rattle.logs.proofs.line.line_end.Given as goal

abbrev pub invariant-loop-i : goal.invariant-loop-i
invariant-loop-i l = l.at + length (stretch (drop l.at l.log)) ≡ l.i + length (stretch (drop l.i l.log))
