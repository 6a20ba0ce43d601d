-- `prn_field` meets its contract: a comma is no digit, so where one stands first the number is absent; else the readers of an item are called
-- in the item's order. Assumes nothing.
use mathlib.Core.Path.{refl}
use Rattle.std.specs.Prelude.{Some}
use Rattle.text.specs.Answer.{seen, held}
use Rattle.text.proofs.Finding.{finding, opt-found, go-on}
use Rattle.gsa.specs.Gsa.{item}
use Rattle.gsa.proofs.Apart.{empty-item, no-item}
use Rattle.gsa.proofs.prn_field.Goals as goal

pub returns-in-Ok : goal.returns-in-Ok
returns-in-Ok c = record { reads = empty-item (rw c.in-Ok.is at c.byte.ensures.reads) }

pub returns-in_err-n : goal.returns-in_err-n
returns-in_err-n c = no-item c.in_default.is c.byte.ensures c.in_err-n.was c.number.ensures c.from_residual.ensures

pub returns-in_err-at : goal.returns-in_err-at
unfolding item
returns-in_err-at c =
    go-on _ (opt-found {look = seen held} {y = (Some c.in_ok-n.n, c.in_ok-n.at)} c.in_ok-n.was refl refl c.number.ensures) (search finding depth 14)

pub returns : goal.returns
unfolding item
returns c =
    go-on _ (opt-found {look = seen held} {y = (Some c.in_ok-n.n, c.in_ok-n.at)} c.in_ok-n.was refl refl c.number.ensures) (search finding depth 14)
