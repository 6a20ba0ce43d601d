-- `letter_place` meets its contract: a letter and a comma. Assumes nothing.
use Rattle.text.proofs.Finding.{finding}
use Rattle.fields.specs.Place.{with_comma}
use Rattle.fields.proofs.letter.letter_place.Goals as goal

pub returns-in_err-letter : goal.returns-in_err-letter
unfolding with_comma
returns-in_err-letter c = search finding depth 14

pub returns-in_err-at : goal.returns-in_err-at
unfolding with_comma
returns-in_err-at c = search finding depth 14

pub returns : goal.returns
unfolding with_comma
returns c = search finding depth 14
