-- `motion_part` meets its contract: speed, course and date. Assumes nothing.
use Rattle.text.proofs.Finding.{finding}
use Rattle.rmc.specs.Rmc.{motion}
use Rattle.rmc.proofs.motion_part.Goals as goal

pub returns-in_err-speed : goal.returns-in_err-speed
unfolding motion
returns-in_err-speed c = search finding depth 14 fits 5000

pub returns-in_err-course : goal.returns-in_err-course
unfolding motion
returns-in_err-course c = search finding depth 14 fits 5000

pub returns-in_err-date : goal.returns-in_err-date
unfolding motion
returns-in_err-date c = search finding depth 14 fits 5000

pub returns : goal.returns
unfolding motion
returns c = search finding depth 14 fits 5000
