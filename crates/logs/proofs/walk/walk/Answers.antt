-- `walk` meets its contract: at the loop's head, the steps of the whole walk are those that are left. Assumes nothing.
use Rattle.std.proofs.Common.{◌<◌, sym, ap, subst, arith}
use Rattle.logs.specs.declared.walk.Counts.{Counts}
use Rattle.logs.proofs.Start.{no-bar, handed-on}
use Rattle.logs.proofs.Goes.{Goes, goes-first, line-more, after-turn}
use Rattle.logs.proofs.Answers.{walk-barred, walk-used, walk-ended}
use Rattle.logs.proofs.walk.walk.Goals as goal

pub returns-in_err-start : goal.returns-in_err-start
returns-in_err-start c =
    let a = c.args in
    rw (handed-on c.from_residual.result c.from_residual.ensures) (walk-barred a.log.now a.place a.allowance a.words.now c.in_err-start.ensures)

pub loop-init : goal.loop-init
loop-init c =
    let a = c.args in
    let (short, place) = no-bar a.log.now a.place c.in_ok-start.ensures in (
      subst (λ (x : Counts). Goes a.log.now a.place a.allowance a.words.now x a.words.now) (sym c.counts_at-c.ensures)
          (goes-first a.log.now a.place a.allowance a.words.now short place),
      ap (λ (x : Counts). x.lines) c.counts_at-c.ensures,
    )

pub loop-preserved : goal.loop-preserved
loop-preserved c =
    let a = c.args in
    let more : c.loop.c.lines < a.allowance = omega (arith, c.loop.invariant.1) in
    let t = c.take_line-t in (
      after-turn a.log.now a.place a.allowance a.words.now c.loop.c c.loop.words c.loop.invariant.0 more c.if-log-c.false _ t.result t.ensures
          c.tally.result c.tally.ensures c.with_group-c.result c.with_group-c.ensures,
      omega (
        arith,
        c.loop.invariant.1,
        line-more a.log.now a.place a.allowance a.words.now c.loop.c c.loop.words c.loop.invariant.0 more c.if-log-c.false _ t.result t.ensures
            c.tally.result c.tally.ensures c.with_group-c.result c.with_group-c.ensures,
      ),
    )

pub returns-after-loop : goal.returns-after-loop
returns-after-loop c =
    let a = c.args in
    walk-used a.log.now a.place a.allowance a.words.now c.in_ok-start.ensures c.loop.c c.loop.words c.loop.invariant.0 (omega (arith, c.loop.invariant.1, c.loop-test.false))

pub returns-then-log-c : goal.returns-then-log-c
returns-then-log-c c =
    let a = c.args in
    walk-ended a.log.now a.place a.allowance a.words.now c.in_ok-start.ensures c.loop.c c.loop.words c.loop.invariant.0 c.if-log-c.true
