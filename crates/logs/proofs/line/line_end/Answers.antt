-- `line_end` meets its contract: the stretch from `at` ends where the one from `i` does. Assumes nothing.
use Rattle.std.proofs.Common.{arith}
use Rattle.lines.proofs.Scan.{stretch-here, stretch-more, stretch-end}
use Rattle.logs.proofs.line.line_end.Goals as goal

pub returns-then-log-i-eq10 : goal.returns-then-log-i-eq10
returns-then-log-i-eq10 c =
    omega (arith, c.loop-i.invariant, stretch-here c.args.log.now c.loop-i.i c.loop-i-test.true c.if-log-i-eq10.true)

pub loop-i-preserved : goal.loop-i-preserved
loop-i-preserved c =
    omega (arith, c.loop-i.invariant, stretch-more c.args.log.now c.loop-i.i c.loop-i-test.true c.if-log-i-eq10.false)

pub returns : goal.returns
returns c =
    let l = c.args.log.now in
    grind (arith, c.loop-i.invariant, stretch-end l c.loop-i.i c.loop-i-test.false, stretch-end l c.skip-from.result)
