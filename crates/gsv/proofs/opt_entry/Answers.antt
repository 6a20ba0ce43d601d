-- `opt_entry` meets its contract: what the entry answers, or nothing eaten. Assumes nothing.
use mathlib.Core.Path.{refl}
use Rattle.text.proofs.Finding.{opt-found, opt-not}
use Rattle.gsv.proofs.Never.{never-entry}
use Rattle.gsv.proofs.opt_entry.Goals as goal

pub returns-in-Ok : goal.returns-in-Ok
returns-in-Ok c = opt-found c.in-Ok.is refl refl c.parse_gsv_sat_info.ensures

pub returns-in-Err : goal.returns-in-Err
returns-in-Err c = opt-not (λ f. never-entry) c.in-Err.is refl refl c.parse_gsv_sat_info.ensures
