-- What each turn of the loop keeps.
use mathlib.Core.Path.{◌≡◌}
use mathlib.Core.List.{[]}
use mathlib.Core.Option.{some}
use lib.ListN.{drop}
use Rattle.utf8.specs.Utf8.{after}
use Rattle.utf8.specs.Answer.{pending}
use Rattle.utf8.proofs.is_utf8.Given as goal

abbrev pub invariant-loop-b : goal.invariant-loop-b
invariant-loop-b l = after (some []) l.s ≡ after (pending l.state) (drop l.b-index l.s)
