-- `opt_system` meets its contract: where the comma or the number after it is missing, nothing is eaten. Assumes nothing.
use mathlib.Core.Path.{refl}
use Rattle.std.specs.Prelude.{Some, None}
use Rattle.text.specs.Answer.{seen, held}
use Rattle.text.proofs.Finding.{opt-found, opt-not, go-on, done}
use Rattle.gsa.specs.Gsa.{opt_system}
use Rattle.gsa.proofs.Never.{never-after}
use Rattle.gsa.proofs.opt_system.Goals as goal

pub returns-in-Ok : goal.returns-in-Ok
unfolding opt_system
returns-in-Ok c =
    go-on _ (opt-found {look = seen held} {y = (Some c.in-Ok.n, c.in-Ok.end)} c.in-Ok.is refl refl c.after_comma.ensures) (done c.known.ensures refl)

pub returns-in-Err : goal.returns-in-Err
unfolding opt_system
returns-in-Err c =
    go-on _ (opt-not {look = seen held} {y = (None, c.args.at)} (λ f. never-after) c.in-Err.is refl refl c.after_comma.ensures) (done refl refl)
