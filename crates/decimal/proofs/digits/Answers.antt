-- `digits` meets its contract: at the loop's head, the run from there on with what was counted is the whole run. Assumes nothing.
use Prim.Native.Nat.{◌+◌}
use native.Mathlib.Omega.{arith}
use mathlib.Core.Path.{◌≡◌, ◌∙◌}
use Rattle.text.proofs.Places.{a-read, bad-read}
use Rattle.decimal.proofs.Runs.{run-more, run-stop, run-over, run-end, digit-more, room}
use Rattle.decimal.proofs.digits.Goals as goal

pub returns-then-d-gt9 : goal.returns-then-d-gt9
returns-then-d-gt9 c =
    let a = c.args in
    let l = c.loop-i in
    record {
      reads = a-read (l.invariant.4 ∙ run-stop a.most l.v l.n a.s.now l.i c.loop-i-test.true c.unit-d.ensures c.if-d-gt9.true l.invariant.2) l.invariant.0
          l.invariant.1;
    }

pub returns-then-n-most : goal.returns-then-n-most
returns-then-n-most c =
    let a = c.args in
    let l = c.loop-i in
    record { reads = bad-read (l.invariant.4 ∙ run-over a.most l.v l.n a.s.now l.i c.loop-i-test.true c.unit-d.ensures c.if-d-gt9.false c.if-n-most.true) }

pub overflow_mul-v : goal.overflow_mul-v
overflow_mul-v c =
    let a = c.args in
    let l = c.loop-i in
    omega (arith, digit-more (a.value + 1) l.n l.v 0 l.invariant.3 (omega arith), room (a.value + 1) (l.n + 1) a.most (omega arith), c.requires)

pub overflow_add-v : goal.overflow_add-v
overflow_add-v c =
    let a = c.args in
    let l = c.loop-i in
    omega (arith, digit-more (a.value + 1) l.n l.v c.from.result l.invariant.3 (omega arith), room (a.value + 1) (l.n + 1) a.most (omega arith), c.requires)

pub loop-i-preserved : goal.loop-i-preserved
loop-i-preserved c =
    let a = c.args in
    let l = c.loop-i in (
      omega arith,
      omega arith,
      omega arith,
      digit-more (a.value + 1) l.n l.v c.from.result l.invariant.3 (omega arith),
      l.invariant.4
          ∙ run-more a.most l.v l.n a.s.now l.i c.loop-i-test.true (c.from.ensures ∙ c.unit-d.ensures) (omega arith),
    )

pub returns : goal.returns
returns c =
    let a = c.args in
    let l = c.loop-i in
    let e : l.i ≡ c.max.result = omega arith in
    record { reads = a-read (l.invariant.4 ∙ rw (← e) (run-end a.most l.v l.n a.s.now l.i c.loop-i-test.false l.invariant.2)) (omega arith) (omega arith) }
