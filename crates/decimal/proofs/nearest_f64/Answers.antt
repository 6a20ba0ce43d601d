-- `nearest_f64` meets its contract: both operands are whole numbers that the format holds, so the one division is the one
-- rounding, and its negation that of the negative number. Assumes nothing.
use native.Mathlib.Omega.{arith}
use Prim.Native.Nat.{◌^◌}
use mathlib.Core.Path.{◌≡◌, ap, ◌∙◌}
use lib.Ieee.{binary64, neg}
use Rattle.decimal.proofs.Exact.{div-whole, neg-round}
use borrow.Author.Rules.{rules}
use lib.IntN.{pos}
use mir.Syntax.{w64}
use mir.Val.{to_z}
use Rattle.decimal.proofs.nearest_f64.Goals as goal

pub returns-then-minus : goal.returns-then-minus
returns-then-minus c =
    let n = c.args.billionths in
    let e : to_z w64 n ≡ pos n = search rules in
    rw (c.if-minus.true, e)
    (ap neg (div-whole binary64 n 1000000000 (omega arith) (omega arith) (omega arith)) ∙ neg-round binary64 n (10 ^ 9))

pub returns-else-minus : goal.returns-else-minus
returns-else-minus c =
    let n = c.args.billionths in
    let e : to_z w64 n ≡ pos n = search rules in
    rw (c.if-minus.false, e) (div-whole binary64 n 1000000000 (omega arith) (omega arith) (omega arith))
