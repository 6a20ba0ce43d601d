-- `satellites_place` meets its contract: the count and its comma. Assumes nothing.
use Rattle.text.proofs.Finding.{finding}
use Rattle.fields.specs.Place.{with_comma}
use Rattle.gga.proofs.satellites_place.Goals as goal

pub returns-in_err-at : goal.returns-in_err-at
unfolding with_comma
returns-in_err-at c = search finding depth 14 fits 5000

pub returns : goal.returns
unfolding with_comma
returns c = search finding depth 14 fits 5000
