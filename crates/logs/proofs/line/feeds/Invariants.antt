-- What each turn of the loop keeps.
use Rattle.logs.specs.Code.{Clear}
use Rattle.logs.proofs.line.feeds.Given as goal

abbrev pub invariant-loop-b : goal.invariant-loop-b
invariant-loop-b l = Clear l.log l.at l.b-index l.feed
