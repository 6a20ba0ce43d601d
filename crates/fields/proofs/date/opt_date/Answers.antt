-- `opt_date` meets its contract: what `parse_date` answers, or nothing eaten. Assumes nothing.
use mathlib.Core.Path.{refl}
use Rattle.text.proofs.Finding.{opt-found, opt-not}
use Rattle.fields.proofs.Number.{never-day}
use Rattle.fields.proofs.date.opt_date.Goals as goal

pub returns-in-Ok : goal.returns-in-Ok
returns-in-Ok c = opt-found c.in-Ok.is refl refl c.parse_date.ensures

pub returns-in-Err : goal.returns-in-Err
returns-in-Err c = opt-not (λ f. never-day) c.in-Err.is refl refl c.parse_date.ensures
