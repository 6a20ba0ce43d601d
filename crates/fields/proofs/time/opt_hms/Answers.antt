-- `opt_hms` meets its contract: what `parse_hms` answers, or nothing eaten. Assumes nothing.
use mathlib.Core.Path.{refl, ap, ◌∙◌}
use Rattle.std.specs.Prelude.{Err}
use Rattle.text.proofs.Finding.{opt-found, opt-missed, opt-fault}
use Rattle.fields.proofs.time.opt_hms.Goals as goal

pub returns-in-Ok : goal.returns-in-Ok
returns-in-Ok c = opt-found c.in-Ok.is refl refl c.parse_hms.ensures

pub returns-in-NoMatch : goal.returns-in-NoMatch
returns-in-NoMatch c = opt-missed (c.in-Err.is ∙ ap Err c.in-NoMatch.is) refl refl c.parse_hms.ensures

pub returns-in_default : goal.returns-in_default
returns-in_default c = opt-fault _ c.in-Err.is c.in_default.not-NoMatch c.parse_hms.ensures
