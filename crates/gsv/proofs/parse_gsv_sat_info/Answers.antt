-- `parse_gsv_sat_info` meets its contract: part by part. Assumes nothing.
use Rattle.text.proofs.Finding.{finding}
use Rattle.gsv.specs.Gsv.{entry}
use Rattle.gsv.proofs.parse_gsv_sat_info.Goals as goal

pub returns-in_err-id : goal.returns-in_err-id
unfolding entry
returns-in_err-id c = search finding depth 14

pub returns-in_err-elevation : goal.returns-in_err-elevation
unfolding entry
returns-in_err-elevation c = search finding depth 14

pub returns-in_err-azimuth : goal.returns-in_err-azimuth
unfolding entry
returns-in_err-azimuth c = search finding depth 14

pub returns-in_err-at : goal.returns-in_err-at
unfolding entry
returns-in_err-at c = search finding depth 14 fits 5000

pub returns : goal.returns
unfolding entry
returns c = search finding depth 14 fits 5000
