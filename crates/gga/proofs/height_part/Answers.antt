-- `height_part` meets its contract: dilution, altitude and geoid. Assumes nothing.
use Rattle.text.proofs.Finding.{finding}
use Rattle.gga.specs.Gga.{height}
use Rattle.gga.proofs.height_part.Goals as goal

pub returns-in_err-hdop : goal.returns-in_err-hdop
unfolding height
returns-in_err-hdop c = search finding depth 14 fits 5000

pub returns-in_err-altitude : goal.returns-in_err-altitude
unfolding height
returns-in_err-altitude c = search finding depth 14 fits 5000

pub returns-in_err-at : goal.returns-in_err-at
unfolding height
returns-in_err-at c = search finding depth 14 fits 5000

pub returns-in_err-geoid : goal.returns-in_err-geoid
unfolding height
returns-in_err-geoid c = search finding depth 14 fits 5000

pub returns : goal.returns
unfolding height
returns c = search finding depth 14 fits 5000
