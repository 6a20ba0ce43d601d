-- `dop` meets its contract: a short decimal that is absent is no match. Assumes nothing.
use mathlib.Core.Path.{refl, ap}
use Rattle.text.specs.Answer.{held_as}
use Rattle.text.proofs.Finding.{finding, go, means, means-not}
use Rattle.decimal.specs.Answer.{a_short}
use Rattle.gsa.specs.Gsa.{dop}
use Rattle.gsa.proofs.dop.Goals as goal

pub returns-in_err-d : goal.returns-in_err-d
unfolding dop
returns-in_err-d c = search finding depth 14

pub returns-in-Some : goal.returns-in-Some
unfolding dop
returns-in-Some c =
    go _ c.branch-d.ensures c.in_ok-d.is c.short_decimal.ensures (means (ap (held_as a_short) c.in-Some.is) refl)

pub returns-in-None : goal.returns-in-None
unfolding dop
returns-in-None c = go _ c.branch-d.ensures c.in_ok-d.is c.short_decimal.ensures (means-not (ap (held_as a_short) c.in-None.is))
