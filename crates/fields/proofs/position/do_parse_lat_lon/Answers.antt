-- `do_parse_lat_lon` meets its contract: latitude, a comma, longitude. Assumes nothing.
use Rattle.text.proofs.Finding.{finding}
use Rattle.fields.specs.Position.{do_lat_lon}
use Rattle.fields.proofs.position.do_parse_lat_lon.Goals as goal

pub returns-in_err-lat : goal.returns-in_err-lat
unfolding do_lat_lon
returns-in_err-lat c = search finding depth 14

pub returns-in_err-at : goal.returns-in_err-at
unfolding do_lat_lon
returns-in_err-at c = search finding depth 14

pub returns-in_err-lon : goal.returns-in_err-lon
unfolding do_lat_lon
returns-in_err-lon c = search finding depth 14

pub returns : goal.returns
unfolding do_lat_lon
returns c = search finding depth 14
