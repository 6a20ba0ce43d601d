-- `bits_f32` meets its contract: only a NaN differs from itself. Assumes nothing.
use lib.Ieee.{binary32}
use Rattle.decimal.proofs.NotNan.{quiet-bits}
use Rattle.decimal.proofs.bits_f32.Goals as goal

pub returns-else-x : goal.returns-else-x
returns-else-x c = quiet-bits c.args.x binary32 _ c.if-x.false
