-- `commas` meets its contract: a comma, three times. Assumes nothing.
use Rattle.text.proofs.Finding.{finding}
use Rattle.fields.specs.Position.{commas}
use Rattle.fields.proofs.position.commas.Goals as goal

pub returns-in_err-at : goal.returns-in_err-at
unfolding commas
returns-in_err-at c = search finding depth 14

pub returns-in_err-at-2 : goal.returns-in_err-at-2
unfolding commas
returns-in_err-at-2 c = search finding depth 14

pub returns : goal.returns
unfolding commas
returns c = search finding depth 14
