-- The invariant: the checksum of the whole part is that of what is left of it, from the one so far. Assumes nothing.
use native.Mathlib.Omega.{arith}
use mathlib.Core.Path.{sym, ◌∙◌}
use Rattle.frame.proofs.Sums.{sum-here, sum-end}
use Rattle.frame.proofs.sum.checksum.Goals as goal

pub loop-i-preserved : goal.loop-i-preserved
loop-i-preserved c =
    let a = c.args in
    c.loop-i.invariant ∙ sum-here a.s.now c.loop-i.i a.to _ (omega arith) (omega arith)

pub returns : goal.returns
returns c =
    let a = c.args in
    sym (c.loop-i.invariant ∙ sum-end a.s.now c.loop-i.i a.to _ (omega arith))
