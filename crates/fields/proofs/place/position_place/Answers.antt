-- `position_place` meets its contract: a position that may be absent, and a comma. Assumes nothing.
use native.Mathlib.Omega.{arith}
use mathlib.Core.Path.{◌≡◌}
use Rattle.std.specs.Prelude.{Ok, Err}
use Rattle.text.proofs.Finding.{finding, stop-on}
use Rattle.fields.specs.Place.{with_comma}
use Rattle.fields.proofs.place.position_place.Goals as goal

pub returns-in_err-position : goal.returns-in_err-position
unfolding with_comma
returns-in_err-position c =
    let e : c.parse_lat_lon.result ≡ Err c.in_err-position.field-0.0 = grind arith in
    let t = rw e at c.parse_lat_lon.ensures in
    search (finding, stop-on) depth 14

pub returns-in_err-at : goal.returns-in_err-at
unfolding with_comma
returns-in_err-at c =
    let e : c.parse_lat_lon.result ≡ Ok (c.in_ok-position.position, c.in_ok-position.at) = grind arith in
    let t = rw e at c.parse_lat_lon.ensures in
    let e' : c.byte.result ≡ Err c.in_err-at.field-0.0 = grind arith in
    let t' = rw e' at c.byte.ensures in
    search (finding, stop-on) depth 14

pub returns : goal.returns
unfolding with_comma
returns c =
    let e : c.parse_lat_lon.result ≡ Ok (c.in_ok-position.position, c.in_ok-position.at) = grind arith in
    let t = rw e at c.parse_lat_lon.ensures in
    let e' : c.byte.result ≡ Ok c.in_ok-at.at = grind arith in
    let t' = rw e' at c.byte.ensures in
    search finding depth 14
