-- `full_tail` meets its contract: it calls the readers of the definition in their order. Assumes nothing.
use Rattle.text.proofs.Finding.{finding}
use Rattle.gsa.specs.Gsa.{full_tail}
use Rattle.gsa.proofs.full_tail.Goals as goal

pub returns-in_err-dops : goal.returns-in_err-dops
unfolding full_tail
returns-in_err-dops c = search finding depth 14

pub returns : goal.returns
unfolding full_tail
returns c = search finding depth 14
