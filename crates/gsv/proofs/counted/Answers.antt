-- `counted` meets its contract: a number, and its comma. Assumes nothing.
use Rattle.text.proofs.Finding.{finding}
use Rattle.gsv.specs.Gsv.{counted}
use Rattle.gsv.proofs.counted.Goals as goal

pub returns-in_err-v : goal.returns-in_err-v
unfolding counted
returns-in_err-v c = search finding depth 14

pub returns-in_err-at : goal.returns-in_err-at
unfolding counted
returns-in_err-at c = search finding depth 14

pub returns : goal.returns
unfolding counted
returns c = search finding depth 14
