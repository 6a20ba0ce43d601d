-- `do_parse_vtg` meets its contract: the two parts, one after another. Assumes nothing.
use native.Mathlib.Omega.{arith}
use mathlib.Core.Path.{◌≡◌}
use Rattle.text.proofs.Finding.{finding, stop-on}
use Rattle.text.proofs.Texts.{whole}
use Rattle.vtg.specs.Vtg.{vtg}
use Rattle.vtg.specs.Answer.{vtg_data}
use Rattle.std.specs.Prelude.{Ok, Err}
use Rattle.vtg.proofs.do_parse_vtg.Goals as goal

pub returns-in_err-course : goal.returns-in_err-course
unfolding vtg
returns-in_err-course c = whole _ 0 vtg vtg_data 0 (search finding depth 14 fits 5000)

pub returns-in_err-speed : goal.returns-in_err-speed
unfolding vtg
returns-in_err-speed c =
    let e : c.speed_part.result ≡ Err c.in_err-speed.field-0.0 = grind arith in
    let t = rw e at c.speed_part.ensures in
    whole _ 0 vtg vtg_data 0 (search (finding, stop-on) depth 14 fits 5000)

pub returns : goal.returns
unfolding vtg
returns c =
    let e : c.speed_part.result ≡ Ok (c.in_ok-speed.speed, c.in_ok-speed.field-0-1) = grind arith in
    let t = rw e at c.speed_part.ensures in
    whole _ 0 vtg vtg_data {r = Ok (record { course = c.in_ok-course.course; speed = c.in_ok-speed.speed })} c.in_ok-speed.field-0-1 (search finding depth 14 fits 5000)
