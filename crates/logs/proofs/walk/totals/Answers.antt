-- `totals` meets its contract: at the loop's head, some table of words has come as far, and the heads are its runs'. Assumes nothing.
use Rattle.std.proofs.Common.{length}
use Rattle.gather.specs.Table.{fresh_table}
use Rattle.logs.proofs.Start.{no-bar, handed-on}
use Rattle.logs.proofs.Answers.{walk-barred}
use Rattle.logs.proofs.Counting.{counting-first, further, after-turn, counted-all}
use Rattle.logs.proofs.walk.totals.Goals as goal

pub returns-in_err-start : goal.returns-in_err-start
returns-in_err-start c =
    let l = c.args.log.now in
    rw (handed-on c.from_residual.result c.from_residual.ensures) ((walk-barred l 0 (length l) fresh_table c.in_err-start.ensures).says)

pub loop-c-init : goal.loop-c-init
loop-c-init c = counting-first c.args.log.now (no-bar c.args.log.now 0 c.in_ok-start.ensures).0 c.counts_at-c.ensures

pub loop-c-smaller : goal.loop-c-smaller
loop-c-smaller c =
    further c.args.log.now c.loop-c.heads c.loop-c.c c.loop-c.invariant c.loop-c-test.true _ c.count_line-t.result c.count_line-t.ensures c.tally.result c.tally.ensures
    c.with_group-c.result c.with_group-c.ensures

pub loop-c-preserved : goal.loop-c-preserved
loop-c-preserved c =
    after-turn c.args.log.now c.loop-c.heads c.loop-c.c c.loop-c.invariant c.loop-c-test.true _ c.count_line-t.result c.count_line-t.ensures c.tally.result c.tally.ensures
    c.with_group-c.result c.with_group-c.ensures

pub returns : goal.returns
returns c = counted-all c.args.log.now c.loop-c.heads c.loop-c.c c.in_ok-start.ensures c.loop-c.invariant c.loop-c-test.false
