-- `bits_f64` meets its contract: only a NaN differs from itself. Assumes nothing.
use lib.Ieee.{binary64}
use Rattle.decimal.proofs.NotNan.{quiet-bits}
use Rattle.decimal.proofs.bits_f64.Goals as goal

pub returns-else-x : goal.returns-else-x
returns-else-x c = quiet-bits c.args.x binary64 _ c.if-x.false
