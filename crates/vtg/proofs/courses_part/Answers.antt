-- `courses_part` meets its contract: both courses, each with its unit. Assumes nothing.
use Rattle.text.proofs.Finding.{finding}
use Rattle.vtg.specs.Vtg.{courses}
use Rattle.vtg.proofs.courses_part.Goals as goal

pub returns-in_err-course : goal.returns-in_err-course
unfolding courses
returns-in_err-course c = search finding depth 14 fits 5000

pub returns-in_err-at : goal.returns-in_err-at
unfolding courses
returns-in_err-at c = search finding depth 14 fits 5000

pub returns-in_err-at-2 : goal.returns-in_err-at-2
unfolding courses
returns-in_err-at-2 c = search finding depth 14 fits 5000

pub returns-in_err-at-3 : goal.returns-in_err-at-3
unfolding courses
returns-in_err-at-3 c = search finding depth 14 fits 5000

pub returns : goal.returns
unfolding courses
returns c = search finding depth 14 fits 5000
