-- `long_decimal` meets its contract: the decimal is taken over, and the billionths of digits within the long limits are below 10 ^ 12, so that
-- they fit, the f64 holds them exactly, and their quotient is that of the digits. Assumes nothing.
use Prim.Native.Nat.{◌-◌, ◌*◌, ◌^◌, ◌<◌}
use native.Mathlib.Omega.{arith}
use mathlib.Core.Path.{◌≡◌, refl}
use lib.Ieee.{binary64}
use Rattle.text.proofs.Finding.{finding, go-on, done}
use Rattle.decimal.specs.Places.{long_decimal}
use Rattle.decimal.proofs.Power.{capped, minutes-lt}
use Rattle.decimal.proofs.Bounds.{kept}
use Rattle.decimal.proofs.Exact.{of-billionths}
use Rattle.decimal.proofs.long_decimal.Goals as goal

pub returns-in_err-d : goal.returns-in_err-d
unfolding long_decimal
returns-in_err-d c = search finding

pub returns-in_default : goal.returns-in_default
unfolding long_decimal
returns-in_default c = go-on _ c.in_ok-d.ensures (done (rw c.in_default.is) refl)

pub overflow_sub-d : goal.overflow_sub-d
overflow_sub-d c = (kept _ c.in_ok-d.ensures c.in-Some.is).few

pub overflow_mul-billionths : goal.overflow_mul-billionths
overflow_mul-billionths c =
    let known = kept _ c.in_ok-d.ensures c.in-Some.is in
    let power : c.pow10.result ≡ 10 ^ (9 - c.in-Some.d.decimals) = capped _ (omega arith) c.pow10.ensures in
    let few : c.in-Some.d.size * c.pow10.result < 1000000000000 = rw power (minutes-lt _ _ known.front known.few) in
    omega (arith, few)

pub nearest_f64-requires : goal.nearest_f64-requires
nearest_f64-requires c =
    let known = kept _ c.in_ok-d.ensures c.in-Some.is in
    let power : c.pow10.result ≡ 10 ^ (9 - c.in-Some.d.decimals) = capped _ (omega arith) c.pow10.ensures in
    rw power (minutes-lt _ _ known.front known.few)

pub returns : goal.returns
unfolding long_decimal
returns c =
    let known = kept _ c.in_ok-d.ensures c.in-Some.is in
    let power : c.pow10.result ≡ 10 ^ (9 - c.in-Some.d.decimals) = capped _ (omega arith) c.pow10.ensures in
    rw (c.nearest_f64.ensures, power, of-billionths binary64 c.in-Some.d.minus c.in-Some.d.size c.in-Some.d.decimals known.few)
    (go-on _ c.in_ok-d.ensures (done (rw c.in-Some.is) refl))
