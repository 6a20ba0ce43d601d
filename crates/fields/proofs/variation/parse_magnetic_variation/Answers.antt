-- `parse_magnetic_variation` meets its contract: the one form, or else the other. Assumes nothing.
use native.Mathlib.Omega.{arith}
use mathlib.Core.Path.{◌≡◌, refl}
use Rattle.std.specs.Prelude.{Ok, Err}
use Rattle.text.proofs.Finding.{finding, go-on, done, alt-found, alt-not}
use Rattle.fields.specs.Variation.{variation}
use Rattle.fields.proofs.Number.{never-comma}
use Rattle.fields.proofs.variation.parse_magnetic_variation.Goals as goal

pub returns-in-Ok : goal.returns-in-Ok
unfolding variation
returns-in-Ok c =
    let e : c.byte.result ≡ Ok c.in-Ok.at = grind arith in
    alt-found _ (go-on _ (rw e at c.byte.ensures) (done refl refl))

pub returns-in_err-variation : goal.returns-in_err-variation
unfolding variation
returns-in_err-variation c =
    let e : c.byte.result ≡ Err c.in_default.field-0 = grind arith in
    alt-not _ _ (λ f. never-comma) (rw e at c.byte.ensures) (search finding depth 14)

pub returns : goal.returns
unfolding variation
returns c =
    let e : c.byte.result ≡ Err c.in_default.field-0 = grind arith in
    alt-not _ _ (λ f. never-comma) (rw e at c.byte.ensures) (search finding depth 14)
