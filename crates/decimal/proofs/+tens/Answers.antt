-- The power of ten meets its contract: it is 1 at exponent 0, and ten times the power below at another.
use mathlib.Core.Path.{ap, ◌∙◌}
use Prim.Native.Nat.{ℕ, ◌*◌}
use Rattle.decimal.proofs.Power.{ten-times}
use Rattle.decimal.proofs.+tens.Goals as goal

pub returns : goal.returns
returns t c = ap (λ (j : ℕ). 10 * j) c.tens.ensures ∙ ten-times c.args.k c.if-k-eq0.false
