-- `speed_part` meets its contract: both speeds, each with its unit. Assumes nothing.
use Rattle.text.proofs.Finding.{finding}
use Rattle.vtg.specs.Vtg.{speed}
use Rattle.vtg.proofs.speed_part.Goals as goal

pub returns-in_err-knots : goal.returns-in_err-knots
unfolding speed
returns-in_err-knots c = search finding depth 14 fits 5000

pub returns-in_err-kmh : goal.returns-in_err-kmh
unfolding speed
returns-in_err-kmh c = search finding depth 14 fits 5000

pub returns : goal.returns
unfolding speed
returns c = search finding depth 14 fits 5000
