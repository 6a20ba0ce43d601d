-- `knots_of` meets its contract: the number in the code is the f32 nearest to 1.852. Assumes nothing.
use mathlib.Core.Path.{refl}
use lib.Ieee.{of_bits, div}
use Rattle.vtg.proofs.knots_of.Goals as goal

pub returns : goal.returns
unfolding div of_bits
returns c = refl
