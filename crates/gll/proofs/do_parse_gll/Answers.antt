-- `do_parse_gll` meets its contract: position, time, status and mode, one after another. Assumes nothing.
use native.Mathlib.Omega.{arith}
use mathlib.Core.Path.{◌≡◌}
use Rattle.text.proofs.Finding.{finding, stop-on}
use Rattle.text.proofs.Texts.{whole}
use Rattle.gll.specs.Gll.{gll}
use Rattle.gll.specs.Answer.{gll_data}
use Rattle.std.specs.Prelude.{Ok, Err}
use Rattle.gll.proofs.do_parse_gll.Goals as goal

pub returns-in_err-position : goal.returns-in_err-position
unfolding gll
returns-in_err-position c =
    let e : c.position_place.result ≡ Err c.in_err-position.field-0.0 = grind arith in
    let t = rw e at c.position_place.ensures in
    whole _ 0 gll gll_data 0 (search (finding, stop-on) depth 14 fits 5000)

pub returns-in_err-time : goal.returns-in_err-time
unfolding gll
returns-in_err-time c =
    let e : c.position_place.result ≡ Ok (c.in_ok-position.position, c.in_ok-position.at) = grind arith in
    let t = rw e at c.position_place.ensures in
    whole _ 0 gll gll_data 0 (search finding depth 14 fits 5000)

pub returns-in_err-status : goal.returns-in_err-status
unfolding gll
returns-in_err-status c =
    let e : c.position_place.result ≡ Ok (c.in_ok-position.position, c.in_ok-position.at) = grind arith in
    let t = rw e at c.position_place.ensures in
    whole _ 0 gll gll_data 0 (search finding depth 14 fits 5000)

pub returns-in_err-mode : goal.returns-in_err-mode
unfolding gll
returns-in_err-mode c =
    let e : c.position_place.result ≡ Ok (c.in_ok-position.position, c.in_ok-position.at) = grind arith in
    let t = rw e at c.position_place.ensures in
    whole _ 0 gll gll_data 0 (search finding depth 14 fits 5000)

pub returns : goal.returns
unfolding gll
returns c =
    let e : c.position_place.result ≡ Ok (c.in_ok-position.position, c.in_ok-position.at) = grind arith in
    let t = rw e at c.position_place.ensures in
    whole _ 0 gll gll_data {r = Ok (record { position = c.in_ok-position.position; time = c.in_ok-time.time; status = c.in_ok-status.status; mode = c.in_ok-mode.mode })} c.in_ok-mode.field-0-1 (search finding depth 14 fits 5000)
