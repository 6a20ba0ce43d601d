-- `all_within` meets its contract: a cell that is within leaves those behind it to decide. Assumes nothing.
use Prim.Native.Nat.{◌+◌, ◌-◌}
use mathlib.Core.Path.{ap, ◌∙◌}
use mathlib.Core.Bool.{Bool, ◌&&◌}
use Rattle.gather.specs.Words.{sats_from}
use Rattle.gather.specs.Code.{all_within}
use Rattle.gather.proofs.Tests.{passed}
use Rattle.gather.proofs.Greedy.{cell-first}
use Rattle.gather.proofs.lent.all_within.Goals as goal

pub loop-i-preserved : goal.loop-i-preserved
loop-i-preserved c =
    let a = c.args in
    let i = c.loop-i.i in
    c.loop-i.invariant
    ∙ ap (all_within a.ids a.max) (cell-first a.row.now a.count i c.loop-i-test.true)
    ∙ ap (λ (b : Bool). b && all_within a.ids a.max (sats_from (i + 1) (a.count - (i + 1)) a.row.now)) (passed _ _ c.cell_within.ensures c.if-not-cell_within.false)
