-- What each turn of the loop keeps: each takes a line.
use Rattle.std.proofs.Common.{◌≡◌}
use Rattle.logs.proofs.Goes.{Goes}
use Rattle.logs.proofs.walk.walk.Given as goal

abbrev pub invariant-loop : goal.invariant-loop
invariant-loop l = Goes l.log l.place l.allowance l.initial.words l.c l.words × (l.c.lines ≡ l.counter)
