-- `unsigned_place` meets its contract: each answer is a case of the definition (`Cases`), by the digits before the point, the point, and the digits
-- behind it. Assumes nothing.
use native.Mathlib.Omega.{arith}
use Rattle.decimal.specs.Answer.{limits_of}
use Rattle.decimal.proofs.Power.{under}
use Rattle.decimal.proofs.Cases.{begun, pointed, closed, none-at, over-at, few-before, zero-at, whole-at, other-at, room-at, long-at, no-digits-at, good-at, junk-at}
use Rattle.decimal.proofs.unsigned_place.Goals as goal

pub returns-then-ends : goal.returns-then-ends
returns-then-ends c =
    none-at _ c.if-ends.ensures

pub digits-requires : goal.digits-requires
digits-requires c =
    omega (arith, under c.args.limits.before 19 (omega arith))

pub returns-in_err-whole : goal.returns-in_err-whole
returns-in_err-whole c =
    over-at _ c.if-ends.ensures c.in_err-whole.ensures c.from_residual.ensures

pub returns-then-whole-eq0 : goal.returns-then-whole-eq0
returns-then-whole-eq0 c =
    let b = begun (limits_of c.args.limits) c.if-ends.ensures c.in_ok-whole.ensures c.requires.before c.requires.all in
    zero-at _ b c.if-whole-eq0.true

pub returns-then-ends-2 : goal.returns-then-ends-2
returns-then-ends-2 c =
    let b = begun (limits_of c.args.limits) c.if-ends.ensures c.in_ok-whole.ensures c.requires.before c.requires.all in
    whole-at _ b c.if-whole-eq0.false c.if-ends-2.ensures

pub returns-in_default : goal.returns-in_default
returns-in_default c =
    let b = begun (limits_of c.args.limits) c.if-ends.ensures c.in_ok-whole.ensures c.requires.before c.requires.all in
    other-at _ b c.if-ends-2.ensures c.in_default.ensures

pub overflow_sub-limits : goal.overflow_sub-limits
overflow_sub-limits c =
    let b = begun (limits_of c.args.limits) c.if-ends.ensures c.in_ok-whole.ensures c.requires.before c.requires.all in
    few-before _ b

pub digits-requires-2 : goal.digits-requires-2
digits-requires-2 c =
    let b = begun (limits_of c.args.limits) c.if-ends.ensures c.in_ok-whole.ensures c.requires.before c.requires.all in
    let p = pointed _ b c.in-Ok.ensures c.min-most.ensures in
    room-at _ p

pub returns-in_err-all : goal.returns-in_err-all
returns-in_err-all c =
    let b = begun (limits_of c.args.limits) c.if-ends.ensures c.in_ok-whole.ensures c.requires.before c.requires.all in
    let p = pointed _ b c.in-Ok.ensures c.min-most.ensures in
    long-at _ p c.in_err-all.ensures c.from_residual-in_err-all.ensures

pub returns-then-all-eq0 : goal.returns-then-all-eq0
returns-then-all-eq0 c =
    let b = begun (limits_of c.args.limits) c.if-ends.ensures c.in_ok-whole.ensures c.requires.before c.requires.all in
    let p = pointed _ b c.in-Ok.ensures c.min-most.ensures in
    let q = closed _ p c.in_ok-all.ensures in
    no-digits-at _ q c.if-all-eq0.true

pub returns-then-ends-3 : goal.returns-then-ends-3
returns-then-ends-3 c =
    let b = begun (limits_of c.args.limits) c.if-ends.ensures c.in_ok-whole.ensures c.requires.before c.requires.all in
    let p = pointed _ b c.in-Ok.ensures c.min-most.ensures in
    let q = closed _ p c.in_ok-all.ensures in
    good-at _ q c.if-whole-eq0.false c.if-all-eq0.false c.if-ends-3.ensures

pub returns : goal.returns
returns c =
    let b = begun (limits_of c.args.limits) c.if-ends.ensures c.in_ok-whole.ensures c.requires.before c.requires.all in
    let p = pointed _ b c.in-Ok.ensures c.min-most.ensures in
    let q = closed _ p c.in_ok-all.ensures in
    junk-at _ q c.if-ends-3.ensures
