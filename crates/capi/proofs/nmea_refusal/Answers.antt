-- `nmea_refusal` meets its contract: the number is that of the answer to the line, and no refusal of a line has the number 0.
-- Assumes nothing.
use Rattle.std.proofs.Common.{Ok, Err}
use Rattle.capi.proofs.Says.{accepted-none, number-said, accepted-said, most-said}
use Rattle.capi.proofs.nmea_refusal.Goals as goal

pub returns-in-Ok : goal.returns-in-Ok
returns-in-Ok c =
    let l = c.args.line.now in
    let o = c.in-Ok.field-0 in
    let says = c.in-Ok.ensures.says in
    let n = accepted-none o in
    record { number = number-said l (Ok o) says n; accepted = accepted-said l (Ok o) says n; most = most-said l (Ok o) says n }

pub returns-in-Err : goal.returns-in-Err
returns-in-Err c =
    let l = c.args.line.now in
    let r = c.in-Err.why in
    let says = c.in-Err.ensures.says in
    let n = c.number.ensures in
    record { number = number-said l (Err r) says n; accepted = accepted-said l (Err r) says n; most = most-said l (Err r) says n }
