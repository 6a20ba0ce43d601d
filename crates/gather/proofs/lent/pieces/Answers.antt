-- `pieces` meets its contract: greedy packing, a cell at a time. Assumes nothing.
use Prim.Native.Nat.{ℕ, ◌-◌}
use mathlib.Core.Path.{ap, ◌∙◌}
use native.Mathlib.Omega.{arith}
use Rattle.pack.specs.Cut.{piece_count}
use Rattle.rows.specs.Leave.{entry_size}
use Rattle.gather.specs.Words.{sats_from}
use Rattle.gather.proofs.Greedy.{start, small-turn, pack-turn, pack-end}
use Rattle.gather.proofs.lent.pieces.Goals as goal

pub loop-i-init : goal.loop-i-init
loop-i-init c =
    record {
      space = ap (λ (n : ℕ). 88 - n) c.digits-d.ensures.count;
      small = record { lines = omega arith; used = omega arith };
      packed = start _ _ _;
    }

pub loop-i-preserved : goal.loop-i-preserved
loop-i-preserved c =
    let l = c.loop-i in
    let a = c.args in
    let w = c.size_at.ensures in
    record {
      space = l.invariant.space;
      small = small-turn l.i l.p c.pile_on-p.result c.size_at.result _ c.pile_on-p.ensures l.invariant.small w.few (omega arith);
      packed =
          pack-turn _ a.row.now a.count l.i l.p c.pile_on-p.result c.size_at.result c.pile_on-p.ensures w.bytes c.loop-i-test.true l.invariant.packed;
    }

pub returns : goal.returns
returns c =
    let l = c.loop-i in
    let a = c.args in
    pack-end _ a.row.now a.count l.i l.p (omega arith) l.invariant.packed
    ∙ ap (λ (r : ℕ). piece_count entry_size r (sats_from 0 a.count a.row.now)) l.invariant.space
