-- `degrees_of` meets its contract: the operations are those of the definition. Assumes nothing.
use lib.Ieee.{of_bits, of_int}
use Rattle.fields.proofs.position.degrees_of.Goals as goal

pub returns-then-minus : goal.returns-then-minus
unfolding of_bits of_int
returns-then-minus c = rw c.if-minus.true

pub returns-else-minus : goal.returns-else-minus
unfolding of_bits of_int
returns-else-minus c = rw c.if-minus.false
