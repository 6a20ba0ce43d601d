-- No more lines differ than there are.
use Rattle.std.proofs.Common.{◌≤◌, ◌<◌}
use Rattle.replay.proofs.replay.Given as goal

abbrev pub invariant-loop-line : goal.invariant-loop-line
invariant-loop-line g l = (l.differ < l.line-counter) × (l.line-counter ≤ 4000000001)
