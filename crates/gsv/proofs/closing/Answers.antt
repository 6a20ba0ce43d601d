-- `closing` meets its contract: at the end nothing is asked, elsewhere a comma. Assumes nothing.
use native.Mathlib.Omega.{arith}
use Rattle.text.proofs.Places.{here, ended, a-read, alike}
use Rattle.gsv.specs.Gsv.{closing}
use Rattle.gsv.proofs.closing.Goals as goal

pub returns-then-s-at : goal.returns-then-s-at
unfolding closing
returns-then-s-at c = record { reads = a-read (rw (ended _ _ c.if-s-at.true)) (omega arith) (omega arith) }

pub returns : goal.returns
unfolding closing
returns c = record { reads = alike c.byte.ensures.reads (rw (here _ _ c.if-s-at.false)) }
