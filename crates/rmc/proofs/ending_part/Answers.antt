-- `ending_part` meets its contract: variation, and the letters behind it. Assumes nothing.
use Rattle.text.proofs.Finding.{finding}
use Rattle.rmc.specs.Rmc.{ending}
use Rattle.rmc.proofs.ending_part.Goals as goal

pub returns-in_err-variation : goal.returns-in_err-variation
unfolding ending
returns-in_err-variation c = search finding depth 14 fits 5000

pub returns : goal.returns
unfolding ending
returns c = search finding depth 14 fits 5000
