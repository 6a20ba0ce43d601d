-- `three_dops` meets its contract: it calls the readers of the definition in their order. Assumes nothing.
use Rattle.text.proofs.Finding.{finding}
use Rattle.gsa.specs.Gsa.{dops}
use Rattle.gsa.proofs.three_dops.Goals as goal

pub returns-in_err-pdop : goal.returns-in_err-pdop
unfolding dops
returns-in_err-pdop c = search finding depth 14 fits 5000

pub returns-in_err-at : goal.returns-in_err-at
unfolding dops
returns-in_err-at c = search finding depth 14 fits 5000

pub returns-in_err-hdop : goal.returns-in_err-hdop
unfolding dops
returns-in_err-hdop c = search finding depth 14 fits 5000

pub returns-in_err-at-2 : goal.returns-in_err-at-2
unfolding dops
returns-in_err-at-2 c = search finding depth 14 fits 5000

pub returns-in_err-vdop : goal.returns-in_err-vdop
unfolding dops
returns-in_err-vdop c = search finding depth 14 fits 5000

pub returns : goal.returns
unfolding dops
returns c = search finding depth 14 fits 5000
