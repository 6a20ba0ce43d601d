-- `short_place` meets its contract: a decimal that may be absent, and a comma. Assumes nothing.
use native.Mathlib.Omega.{arith}
use mathlib.Core.Path.{◌≡◌}
use Rattle.std.specs.Prelude.{Ok, Err}
use Rattle.text.proofs.Finding.{finding, stop-on}
use Rattle.fields.specs.Place.{with_comma}
use Rattle.fields.proofs.place.short_place.Goals as goal

pub returns-in_err-d : goal.returns-in_err-d
unfolding with_comma
returns-in_err-d c =
    let e : c.short_decimal.result ≡ Err c.in_err-d.field-0.0 = grind arith in
    let t = rw e at c.short_decimal.ensures in
    search (finding, stop-on) depth 14

pub returns-in_err-at : goal.returns-in_err-at
unfolding with_comma
returns-in_err-at c =
    let e : c.short_decimal.result ≡ Ok (c.in_ok-d.d, c.in_ok-d.at) = grind arith in
    let t = rw e at c.short_decimal.ensures in
    search finding depth 14

pub returns : goal.returns
unfolding with_comma
returns c =
    let e : c.short_decimal.result ≡ Ok (c.in_ok-d.d, c.in_ok-d.at) = grind arith in
    let t = rw e at c.short_decimal.ensures in
    search finding depth 14
