-- `nearest_f32` meets its contract: both operands are whole numbers that the format holds, so the one division is the one
-- rounding, and its negation that of the negative number. Assumes nothing.
use native.Mathlib.Omega.{arith}
use Prim.Native.Nat.{◌^◌}
use mathlib.Core.Path.{◌≡◌, ap, ◌∙◌}
use mathlib.Core.Bool.{false}
use lib.IntN.{pos}
use lib.Ieee.{binary32, round, div, neg, of_int}
use Rattle.decimal.proofs.Power.{under, capped}
use Rattle.decimal.proofs.Exact.{in-float, divided, neg-round}
use Rattle.decimal.proofs.nearest_f32.Goals as goal

pub int_to_float-quotient-2 : goal.int_to_float-quotient-2
int_to_float-quotient-2 c =
    let k = c.args.k in
    in-float binary32 c.pow10-power.result (omega (arith, capped k (omega arith) c.pow10-power.ensures, under k 6 (omega arith)))

pub returns-then-minus : goal.returns-then-minus
returns-then-minus c =
    let quotient : (let a = c.args in
    div binary32 (of_int binary32 (pos a.size)) (of_int binary32 (pos c.pow10-power.result)) ≡ round binary32 false a.size (10 ^ a.k)) = let a = c.args in
    divided binary32 a.size a.k (omega arith) (omega arith) (omega (arith, under a.k 6 (omega arith))) c.pow10-power.ensures in
    let a = c.args in
    rw c.if-minus.true (ap neg (quotient) ∙ neg-round binary32 a.size (10 ^ a.k))

pub returns-else-minus : goal.returns-else-minus
returns-else-minus c =
    let quotient : (let a = c.args in
    div binary32 (of_int binary32 (pos a.size)) (of_int binary32 (pos c.pow10-power.result)) ≡ round binary32 false a.size (10 ^ a.k)) = let a = c.args in
    divided binary32 a.size a.k (omega arith) (omega arith) (omega (arith, under a.k 6 (omega arith))) c.pow10-power.ensures in
    rw c.if-minus.false (quotient)
