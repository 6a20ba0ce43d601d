-- `fixed_width` meets its contract: a first byte leads, and each turn reads one byte of the rest, which ends the reading where it is no digit or
-- the number is above 255. Assumes nothing.
use Prim.Native.Nat.{◌+◌, ◌≤◌}
use native.Mathlib.Omega.{arith}
use mathlib.Core.Path.{◌∙◌}
use lib.ListN.{drop, get_or}
use lib.Seq.{slice}
use borrow.Author.Tests.{le-leb}
use Rattle.text.proofs.Places.{a-read, no-read}
use Rattle.text.proofs.Fixed.{Lead, plus-leads, digit-leads, fixed-short, fixed-none, fixed-lead, go-digit, go-none, go-over, go-end}
use Rattle.text.proofs.fixed_width.Goals as goal
use Rattle.text.proofs.fixed_width.Goals.{then-value-gt9+else-s-at-ne43, else-value-gt9}

pub returns-then-s : goal.returns-then-s
returns-then-s g c = let a = c.args in record { reads = no-read (fixed-short g.row.N a.s.now a.at (omega arith)) }

pub returns-then-s-at : goal.returns-then-s-at
returns-then-s-at g c = let a = c.args in record { reads = no-read (fixed-short g.row.N a.s.now a.at (omega arith)) }

pub returns-then-s-at-ne43 : goal.returns-then-s-at-ne43
returns-then-s-at-ne43 g c =
    record {
      reads = no-read (fixed-none _ _ _ c.if-s.false c.if-s-at.false c.requires c.unit-value.ensures c.if-value-gt9.true c.if-s-at-ne43.true);
    }

pub loop-i-init : goal.loop-i-init
loop-i-init g c =
    let lead : Lead (get_or c.args.s.now c.args.at 0) c.if-value-gt9.value = elim c.if-value-gt9.branch [ then-value-gt9+else-s-at-ne43 w ↦ plus-leads _ w.if-s-at-ne43.false (grind arith) | else-value-gt9 w ↦ digit-leads _ c.unit-value.ensures w.if-value-gt9.false w.value-is ] in
    let small : c.if-value-gt9.value ≤ 9 = lead.small in
    (omega arith, fixed-lead _ _ _ c.if-s.false c.if-s-at.false c.requires lead)

pub returns-then-d-gt9 : goal.returns-then-d-gt9
returns-then-d-gt9 g c =
    let rest = go-none c.args.s.now _ _ c.loop-i-test.true c.loop-i.value c.if-d-gt9.true (grind arith) (omega arith) in
    record { reads = no-read (rw rest at c.loop-i.invariant.1) }

pub returns-then-value-gt255 : goal.returns-then-value-gt255
returns-then-value-gt255 g c =
    let rest = go-digit c.args.s.now _ _ c.loop-i-test.true c.loop-i.value c.if-d-gt9.false (grind arith) (omega arith) in
    let a = c.args in
    let end = a.at + g.row.N in
    record { reads = no-read (rw rest at c.loop-i.invariant.1 ∙ go-over _ (slice (c.loop-i.i + 1) end a.s.now) (drop end a.s.now) (grind arith)) }

pub loop-i-preserved : goal.loop-i-preserved
loop-i-preserved g c =
    let rest = go-digit c.args.s.now _ _ c.loop-i-test.true c.loop-i.value c.if-d-gt9.false (grind arith) (omega arith) in
    (omega arith, grind arith)

pub returns : goal.returns
returns g c =
    let a = c.args in
    let k = c.loop-i in
    let small = le-leb _ _ k.invariant.0 in
    let rest = go-end a.s.now _ _ k.value c.loop-i-test.false in
    record { reads = a-read (rw (rest, small) at k.invariant.1) (omega arith) (omega arith) }
