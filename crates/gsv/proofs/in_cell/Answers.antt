-- `in_cell` meets its contract: a number that may be absent, and its comma. Assumes nothing.
use Rattle.text.proofs.Finding.{finding}
use Rattle.gsv.specs.Gsv.{cell}
use Rattle.gsv.proofs.in_cell.Goals as goal

pub returns-in_err-at : goal.returns-in_err-at
unfolding cell
returns-in_err-at c = search finding depth 14

pub returns : goal.returns
unfolding cell
returns c = search finding depth 14
