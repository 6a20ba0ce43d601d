-- `after_comma` meets its contract: a comma, and a number. Assumes nothing.
use Rattle.text.proofs.Finding.{finding}
use Rattle.gsa.specs.Gsa.{after_comma}
use Rattle.gsa.proofs.after_comma.Goals as goal

pub returns-in_err-at : goal.returns-in_err-at
unfolding after_comma
returns-in_err-at c = search finding depth 14

pub returns : goal.returns
unfolding after_comma
returns c = search finding depth 14
