-- `minus_sign` meets its contract: a minus sign stands there and is eaten, or another byte, or none. Assumes nothing.
use Rattle.decimal.proofs.Order.{sign-found, sign-none}
use Rattle.decimal.proofs.minus_sign.Goals as goal

pub returns-in-Ok : goal.returns-in-Ok
returns-in-Ok c = sign-found c.in-Ok.ensures

pub returns-in-Err : goal.returns-in-Err
returns-in-Err c = sign-none c.in-Err.ensures
