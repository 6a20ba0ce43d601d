-- `empty_tail` meets its contract: commas, and then the last system, which is all of the tail. Assumes nothing.
use mathlib.Core.Path.{refl}
use native.Mathlib.Omega.{arith}
use Rattle.text.proofs.Finding.{finding}
use Rattle.gsa.specs.Gsa.{empty_tail}
use Rattle.gsa.proofs.empty_tail.Goals as goal

pub returns-in_err-at : goal.returns-in_err-at
unfolding empty_tail
returns-in_err-at c = search finding depth 14

pub returns-in_err-system : goal.returns-in_err-system
unfolding empty_tail
returns-in_err-system c = search finding depth 14

pub invariant_of-satellites : goal.invariant_of-satellites
invariant_of-satellites c = record { most = omega arith; rest = refl }

pub returns : goal.returns
unfolding empty_tail
returns c = search finding depth 14
