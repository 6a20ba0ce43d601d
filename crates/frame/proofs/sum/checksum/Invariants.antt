-- What each turn of the loop keeps.
use mathlib.Core.Path.{◌≡◌}
use lib.Seq.{slice}
use Rattle.frame.specs.Checksum.{checksum, checksum_from}
use Rattle.frame.proofs.sum.checksum.Given as goal

abbrev pub invariant-loop-i : goal.invariant-loop-i
invariant-loop-i l = checksum (slice l.from l.to l.s) ≡ checksum_from l.x (slice l.i l.to l.s)
