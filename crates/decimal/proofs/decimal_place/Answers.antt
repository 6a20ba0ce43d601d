-- `decimal_place` meets its contract: the sign and then the digits are the decimal (`Order`). Assumes nothing.
use Rattle.text.proofs.Finding.{finding}
use Rattle.decimal.proofs.Order.{ordering}
use Rattle.decimal.proofs.decimal_place.Goals as goal

pub returns-in_err-digits : goal.returns-in_err-digits
returns-in_err-digits c = search (finding, ordering) depth 14

pub returns-in-Some : goal.returns-in-Some
returns-in-Some c = search (finding, ordering) depth 14

pub returns-in-None : goal.returns-in-None
returns-in-None c = search (finding, ordering) depth 14

pub returns-in-None-2 : goal.returns-in-None-2
returns-in-None-2 c = search (finding, ordering) depth 14
