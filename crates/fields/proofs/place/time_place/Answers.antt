-- `time_place` meets its contract: a time that may be absent, and a comma. Assumes nothing.
use native.Mathlib.Omega.{arith}
use mathlib.Core.Path.{◌≡◌}
use Rattle.std.specs.Prelude.{Ok, Err}
use Rattle.text.proofs.Finding.{finding, stop-on}
use Rattle.fields.specs.Place.{with_comma}
use Rattle.fields.proofs.place.time_place.Goals as goal

pub returns-in_err-time : goal.returns-in_err-time
unfolding with_comma
returns-in_err-time c =
    let e : c.opt_hms.result ≡ Err c.in_err-time.field-0.0 = grind arith in
    let t = rw e at c.opt_hms.ensures in
    search (finding, stop-on) depth 14

pub returns-in_err-at : goal.returns-in_err-at
unfolding with_comma
returns-in_err-at c =
    let e : c.opt_hms.result ≡ Ok (c.in_ok-time.time, c.in_ok-time.at) = grind arith in
    let t = rw e at c.opt_hms.ensures in
    let e' : c.byte.result ≡ Err c.in_err-at.field-0.0 = grind arith in
    let t' = rw e' at c.byte.ensures in
    search (finding, stop-on) depth 14

pub returns : goal.returns
unfolding with_comma
returns c =
    let e : c.opt_hms.result ≡ Ok (c.in_ok-time.time, c.in_ok-time.at) = grind arith in
    let t = rw e at c.opt_hms.ensures in
    let e' : c.byte.result ≡ Ok c.in_ok-at.at = grind arith in
    let t' = rw e' at c.byte.ensures in
    search finding depth 14
