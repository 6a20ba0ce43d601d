-- `step` meets its contract: test by test. Assumes nothing.
use Rattle.std.proofs.Common.{arith}
use Rattle.logs.proofs.Start.{handed-on}
use Rattle.logs.proofs.OneStep.{step-barred, step-within, step-end, step-line}
use Rattle.logs.proofs.step.step.Goals as goal

pub returns-in_err-start : goal.returns-in_err-start
returns-in_err-start c =
    let a = c.args in
    rw (handed-on c.from_residual.result c.from_residual.ensures) (step-barred a.log.now a.place a.words.now c.in_err-start.ensures)

pub returns-then-place-log : goal.returns-then-place-log
returns-then-place-log c = let a = c.args in step-end a.log.now a.place a.words.now c.in_ok-start.ensures c.if-place-log.true

pub line_at-line-requires : goal.line_at-line-requires
line_at-line-requires c =
    let a = c.args in
    let z = c.if-place-log.false in
    omega (arith, step-within a.log.now a.place a.words.now c.in_ok-start.ensures)

pub returns : goal.returns
returns c =
    let a = c.args in
    let l = c.line_at-line in
    step-line a.log.now a.place a.words.now c.in_ok-start.ensures c.if-place-log.false l.result.0 l.result.1 l.ensures c.follow_line-outcome.ensures
