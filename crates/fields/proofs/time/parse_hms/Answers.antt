-- `parse_hms` meets its contract: two numbers, the seconds, and what the clock says of them. Assumes nothing.
use native.Mathlib.Omega.{arith}
use mathlib.Core.Path.{◌≡◌}
use Rattle.std.specs.Prelude.{Ok, Err}
use Rattle.text.proofs.Finding.{finding, stop-on, go-on, present, handed}
use Rattle.decimal.proofs.Facts.{long-held}
use Rattle.fields.specs.Time.{hms}
use Rattle.fields.proofs.Steps.{signed, unsigned}
use Rattle.fields.proofs.time.parse_hms.Goals as goal

pub returns-in_err-hour : goal.returns-in_err-hour
unfolding hms
returns-in_err-hour c = search finding

pub returns-in_err-minute : goal.returns-in_err-minute
unfolding hms
returns-in_err-minute c = go-on _ c.in_ok-hour.ensures (search finding)

pub returns-in_err-seconds : goal.returns-in_err-seconds
unfolding hms
returns-in_err-seconds c =
    let e : c.long_decimal.result ≡ Err c.in_err-seconds.field-0.0 = grind arith in
    let t = rw e at c.long_decimal.ensures in
    go-on _ c.in_ok-hour.ensures (go-on _ c.in_ok-minute.ensures (stop-on _ t c.from_residual-in_err-seconds.ensures))

pub returns-in_err-seconds-2 : goal.returns-in_err-seconds-2
unfolding hms
returns-in_err-seconds-2 c =
    let e : c.long_decimal.result ≡ Ok (c.in_ok-seconds.seconds, c.in_ok-seconds.at) = grind arith in
    let t = rw e at c.long_decimal.ensures in
    go-on _ c.in_ok-hour.ensures (go-on _ c.in_ok-minute.ensures (go-on _ t (search finding)))

pub returns-then-seconds : goal.returns-then-seconds
unfolding hms
returns-then-seconds c =
    let e : c.long_decimal.result ≡ Ok (c.in_ok-seconds.seconds, c.in_ok-seconds.at) = grind arith in
    let t = rw e at c.long_decimal.ensures in
    go-on _ c.in_ok-hour.ensures
    (go-on _ c.in_ok-minute.ensures
    (go-on _ t (search (finding, signed))))

pub on_clock-requires-clause-decimals : goal.on_clock-requires-clause-decimals
on_clock-requires-clause-decimals c =
    let e : c.long_decimal.result ≡ Ok (c.in_ok-seconds.seconds, c.in_ok-seconds.at) = grind arith in
    let t = rw e at c.long_decimal.ensures in
    (long-held t c.in_ok-seconds-2.ensures.ok_part).few

pub on_clock-requires-clause-billionths : goal.on_clock-requires-clause-billionths
on_clock-requires-clause-billionths c =
    let e : c.long_decimal.result ≡ Ok (c.in_ok-seconds.seconds, c.in_ok-seconds.at) = grind arith in
    let t = rw e at c.long_decimal.ensures in
    (long-held t c.in_ok-seconds-2.ensures.ok_part).scaled

pub returns-in_err-time : goal.returns-in_err-time
unfolding hms
returns-in_err-time c =
    let e : c.long_decimal.result ≡ Ok (c.in_ok-seconds.seconds, c.in_ok-seconds.at) = grind arith in
    let t = rw e at c.long_decimal.ensures in
    go-on _ c.in_ok-hour.ensures
    (go-on _ c.in_ok-minute.ensures
    (go-on _ t
    (present _ _ _ c.ok_or.ensures.value c.branch-seconds-2.ensures c.in_ok-seconds-2.is
    (unsigned _ _ c.if-seconds.false
    (record { reads = rw (handed _ c.from_residual-in_err-time.ensures) (c.in_err-time.ensures c.args.s.now c.in_ok-seconds.at).reads })))))

pub returns : goal.returns
unfolding hms
returns c =
    let e : c.long_decimal.result ≡ Ok (c.in_ok-seconds.seconds, c.in_ok-seconds.at) = grind arith in
    let t = rw e at c.long_decimal.ensures in
    go-on _ c.in_ok-hour.ensures
    (go-on _ c.in_ok-minute.ensures
    (go-on _ t
    (present _ _ _ c.ok_or.ensures.value c.branch-seconds-2.ensures c.in_ok-seconds-2.is
    (unsigned _ _ c.if-seconds.false (record { reads = (c.in_ok-time.ensures c.args.s.now c.in_ok-seconds.at).reads })))))
