-- `all_short` meets its contract: in both loops the cells that are left decide, of which a turn tests four or one. Assumes nothing.
use Prim.Native.Nat.{ℕ, ◌+◌, ◌-◌, ◌*◌}
use native.Mathlib.Omega.{arith}
use mathlib.Core.Path.{◌≡◌, ap, sym, ◌∙◌}
use Rattle.gather.specs.Words.{sats_from}
use Rattle.gather.specs.Code.{all_within, short_max}
use Rattle.gather.proofs.Bits.{one-cell, four-cells, fails, goes}
use Rattle.gather.proofs.lent.all_short.Goals as goal

pub returns-then-bits-gt-SHORT : goal.returns-then-bits-gt-SHORT
returns-then-bits-gt-SHORT c =
    let t = four-cells c.args.row.now c.args.count (c.loop-line.line * 4) (omega arith) c.cell_bits.ensures c.cell_bits-in-loop-line.ensures c.cell_bits-in-loop-line-2.ensures c.cell_bits-in-loop-line-3.ensures in
    sym (c.loop-line.invariant ∙ fails t (omega (arith, c.if-bits-gt-SHORT.true)))

pub loop-line-preserved : goal.loop-line-preserved
loop-line-preserved c =
    let t = four-cells c.args.row.now c.args.count (c.loop-line.line * 4) (omega arith) c.cell_bits.ensures c.cell_bits-in-loop-line.ensures c.cell_bits-in-loop-line-2.ensures c.cell_bits-in-loop-line-3.ensures in
    let z : c.loop-line.line * 4 + 4 ≡ (c.loop-line.line + 1) * 4 = omega arith in
    c.loop-line.invariant
    ∙ goes t c.if-bits-gt-SHORT.false
    ∙ ap (λ (k : ℕ). all_within short_max short_max (sats_from k (c.args.count - k) c.args.row.now)) z

pub returns-then-cell_bits-gt-SHORT : goal.returns-then-cell_bits-gt-SHORT
returns-then-cell_bits-gt-SHORT c =
    let t = one-cell c.args.row.now c.args.count c.loop-i.i c.loop-i-test.true c.cell_bits-in-loop-i.ensures in
    sym (c.loop-i.invariant ∙ fails t (omega (arith, c.if-cell_bits-gt-SHORT.true)))

pub loop-i-preserved : goal.loop-i-preserved
loop-i-preserved c =
    let t = one-cell c.args.row.now c.args.count c.loop-i.i c.loop-i-test.true c.cell_bits-in-loop-i.ensures in
    c.loop-i.invariant ∙ goes t c.if-cell_bits-gt-SHORT.false
