-- `opt_number` meets its contract: what `number` reads is held, and where it does not match the place stays. Assumes nothing.
use mathlib.Core.Path.{refl}
use Rattle.text.proofs.Faults.{never-number}
use Rattle.text.proofs.Finding.{opt-found, opt-not}
use Rattle.text.proofs.opt_number.Goals as goal

pub returns-in-Ok : goal.returns-in-Ok
returns-in-Ok c = opt-found c.in-Ok.is refl refl c.number.ensures

pub returns-in-Err : goal.returns-in-Err
returns-in-Err c = opt-not (λ f. never-number _) c.in-Err.is refl refl c.number.ensures
