-- `nmea_walk` meets its contract: the totals of the walk, or its refusal, where there is room for them. Assumes nothing.
use Rattle.std.proofs.Common.{refl}
use mir.Facts.{clash}
use Rattle.capi.proofs.Walks.{tells-refused, tells-went}
use Rattle.capi.proofs.totals.nmea_walk.Goals as goal

pub returns-then-out-lt-TOTALS : goal.returns-then-out-lt-TOTALS
returns-then-out-lt-TOTALS c = record { written = λ h. clash c.if-out-lt-TOTALS.true h; short = λ h. (refl, refl) }

pub returns-in-Err : goal.returns-in-Err
returns-in-Err c =
    let a = c.args in
    record {
      written = λ h. tells-refused a.log.now a.out.now _ c.in-Err.ensures c.number.ensures;
      short = λ h. clash h c.if-out-lt-TOTALS.false;
    }

pub returns-in-Ok : goal.returns-in-Ok
returns-in-Ok c =
    let a = c.args in
    record {
      written = λ h. tells-went a.log.now a.out.now _ _ c.in-Ok.ensures c.put_totals.ensures;
      short = λ h. clash h c.if-out-lt-TOTALS.false;
    }
