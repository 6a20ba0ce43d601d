-- `unit_place` meets its contract: a letter that may be missing, and a comma. Assumes nothing.
use Rattle.text.proofs.Finding.{finding}
use Rattle.fields.specs.Letter.{unit_place}
use Rattle.fields.proofs.letter.unit_place.Goals as goal

pub returns : goal.returns
unfolding unit_place
returns c = search finding depth 14
