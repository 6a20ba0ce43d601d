-- `fix_part` meets its contract: time, status and position. Assumes nothing.
use native.Mathlib.Omega.{arith}
use mathlib.Core.Path.{◌≡◌}
use Rattle.std.specs.Prelude.{Ok, Err}
use Rattle.text.proofs.Finding.{finding, stop-on}
use Rattle.rmc.specs.Rmc.{fix_part}
use Rattle.rmc.proofs.fix_part.Goals as goal

pub returns-in_err-time : goal.returns-in_err-time
unfolding fix_part
returns-in_err-time c = search finding depth 14 fits 5000

pub returns-in_err-status : goal.returns-in_err-status
unfolding fix_part
returns-in_err-status c = search finding depth 14 fits 5000

pub returns-in_err-position : goal.returns-in_err-position
unfolding fix_part
returns-in_err-position c =
    let e : c.position_place.result ≡ Err c.in_err-position.field-0.0 = grind arith in
    let t = rw e at c.position_place.ensures in search (finding, stop-on) depth 14 fits 5000

pub returns : goal.returns
unfolding fix_part
returns c =
    let e : c.position_place.result ≡ Ok (c.in_ok-position.position, c.in_ok-position.at) = grind arith in
    let t = rw e at c.position_place.ensures in search finding depth 14 fits 5000
