-- What each turn of the loop keeps.
use mathlib.Core.Path.{◌≡◌}
use mathlib.Core.Bool.{◌&&◌}
use lib.Dec.{ltb}
use lib.ListN.{drop}
use Rattle.utf8.specs.Utf8.{ascii}
use Rattle.utf8.proofs.is_ascii.Given as goal

abbrev pub invariant-loop-b : goal.invariant-loop-b
invariant-loop-b l = ascii l.s ≡ (ltb l.top 0x80 && ascii (drop l.b-index l.s))
