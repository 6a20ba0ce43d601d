-- `number` meets its contract: the loop goes on from the digits that it has read, so that reading the whole text is
-- reading what is left from `value`. The measure is what is left of the text. Assumes nothing.
use Prim.Native.Nat.{◌+◌, ◌*◌}
use native.Mathlib.Omega.{arith}
use mathlib.Core.Path.{◌≡◌, ap, ◌∙◌, sym, subst}
use lib.ListN.{length, drop}
use Rattle.text.specs.Number.{number, number_from}
use Rattle.text.specs.Placed.{Reads, upto}
use Rattle.text.proofs.Places.{a-read, no-read}
use Rattle.text.proofs.Digits.{number-past, number-end, number-over, unit-first, unit-absent, unit-more, unit-stop}
use Rattle.text.proofs.number.Goals as goal

pub returns-then-s-at : goal.returns-then-s-at
returns-then-s-at c = record { reads = no-read (number-past _ _ _ c.if-s-at.true) }

pub returns-then-first-gt9 : goal.returns-then-first-gt9
returns-then-first-gt9 c = record { reads = no-read (unit-absent _ _ _ c.if-s-at.false _ c.unit-first.ensures c.if-first-gt9.true) }

pub returns-then-max-first : goal.returns-then-max-first
returns-then-max-first c =
    record { reads = no-read (unit-first _ _ _ c.if-s-at.false _ c.unit-first.ensures c.if-first-gt9.false ∙ number-over _ _ _ c.if-max-first.true) }

pub loop-i-init : goal.loop-i-init
loop-i-init c =
    let a = c.args in
    let e = c.from-value.ensures in
    let h = c.if-s-at.false in (
      omega arith,
      omega (arith, h),
      omega (arith, e, c.if-max-first.false),
      c.from-top.ensures,
      unit-first _ _ _ h _ c.unit-first.ensures c.if-first-gt9.false
          ∙ sym (ap (λ v. number_from a.max v (drop (a.at + 1) a.s.now)) e),
    )

pub overflow_cast-result : goal.overflow_cast-result
overflow_cast-result c = omega arith

pub returns-then-d-gt9 : goal.returns-then-d-gt9
returns-then-d-gt9 c =
    let inv = c.loop-i.invariant in
    record { reads = a-read (inv.4 ∙ unit-stop _ _ _ c.loop-i-test.true _ c.unit-d.ensures _ c.if-d-gt9.true inv.2) inv.0 (omega arith) }

pub overflow_mul-value : goal.overflow_mul-value
overflow_mul-value c = omega arith

pub overflow_add-value : goal.overflow_add-value
overflow_add-value c = omega arith

pub returns-then-top-value : goal.returns-then-top-value
returns-then-top-value c =
    let turn : (let l = c.loop-i in
    let a = c.args in
    number a.max (drop a.at a.s.now) ≡ number_from a.max (l.value * 10 + c.from.result) (drop (l.i + 1) a.s.now)) = rw c.from.ensures
    (c.loop-i.invariant.4
    ∙ unit-more _ _ _ c.loop-i-test.true _ c.unit-d.ensures _ c.if-d-gt9.false) in
    record { reads = no-read (turn ∙ number-over _ _ _ (omega arith)) }

pub loop-i-preserved : goal.loop-i-preserved
loop-i-preserved c =
    let turn : (let l = c.loop-i in
    let a = c.args in
    number a.max (drop a.at a.s.now) ≡ number_from a.max (l.value * 10 + c.from.result) (drop (l.i + 1) a.s.now)) = rw c.from.ensures
    (c.loop-i.invariant.4
    ∙ unit-more _ _ _ c.loop-i-test.true _ c.unit-d.ensures _ c.if-d-gt9.false) in
    (omega arith, omega arith, omega arith, omega arith, turn)

pub overflow_cast-result-2 : goal.overflow_cast-result-2
overflow_cast-result-2 c = omega arith

pub returns : goal.returns
returns c =
    let inv = c.loop-i.invariant in
    let e : c.loop-i.i ≡ length c.args.s.now = omega arith in
    let r : Reads c.args.s.now c.args.at (number c.args.max) (upto c.loop-i.value c.loop-i.i)
    = a-read (inv.4 ∙ number-end _ _ _ _ c.loop-i-test.false inv.2) inv.0 (omega arith) in
    record { reads = subst (λ p. Reads c.args.s.now c.args.at (number c.args.max) (upto c.loop-i.value p)) e r }
