-- `on_clock` meets its contract, test by test: whole seconds and what is left of the billionths are those of the definition.
-- Assumes nothing.
use native.Mathlib.Omega.{arith}
use Rattle.text.proofs.Places.{a-read, no-read}
use Rattle.fields.proofs.Clock.{whole-second, rest-second, late-hour, late-minute, late-second, in-time}
use Rattle.fields.proofs.time.on_clock.Goals as goal

pub returns-then-hour-ge24 : goal.returns-then-hour-ge24
returns-then-hour-ge24 c = let a = c.args in λ s at. record { reads = no-read (late-hour a.hour a.minute a.d.size a.d.decimals _ c.if-hour-ge24.true) }

pub returns-then-minute-ge60 : goal.returns-then-minute-ge60
returns-then-minute-ge60 c = let a = c.args in λ s at. record { reads = no-read (late-minute a.hour a.minute a.d.size a.d.decimals _ c.if-minute-ge60.true) }

pub returns-then-second-ge60 : goal.returns-then-second-ge60
returns-then-second-ge60 c =
    let a = c.args in
    let e = whole-second a.d.size a.d.decimals a.d.billionths c.requires.decimals c.requires.billionths in
    λ s at. record { reads = no-read (late-second a.hour a.minute a.d.size a.d.decimals _ (rw e at c.if-second-ge60.true)) }

pub returns : goal.returns
returns c =
    let a = c.args in
    let e = whole-second a.d.size a.d.decimals a.d.billionths c.requires.decimals c.requires.billionths in
    let f = rest-second a.d.size a.d.decimals a.d.billionths c.requires.decimals c.requires.billionths in
    λ s at. record {
      reads = rw (e, f)
          (a-read (in-time a.hour a.minute a.d.size a.d.decimals _ c.if-hour-ge24.false c.if-minute-ge60.false (rw e at c.if-second-ge60.false) (rw f at c.if-nanosecond-ge1000000000.false)) (omega arith) (omega arith));
    }
