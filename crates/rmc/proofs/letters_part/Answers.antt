-- `letters_part` meets its contract: mode and status. Assumes nothing.
use Rattle.text.proofs.Finding.{finding}
use Rattle.rmc.specs.Rmc.{letters}
use Rattle.rmc.proofs.letters_part.Goals as goal

pub returns : goal.returns
unfolding letters
returns c = search finding depth 14 fits 5000
