-- `either_tail` meets its contract: the empty tail ends in no fault, so where it is not there the full one is read. Assumes nothing.
use Rattle.text.proofs.Places.{no-read, alt-second}
use Rattle.text.proofs.Finding.{alt-found, not-found}
use Rattle.gsa.proofs.Never.{never-empty}
use Rattle.gsa.proofs.either_tail.Goals as goal

pub returns-in-Ok : goal.returns-in-Ok
returns-in-Ok c = alt-found _ c.in-Ok.ensures

pub returns-in-Err : goal.returns-in-Err
returns-in-Err c =
    record { reads = alt-second _ _ (no-read (not-found (λ f. never-empty) c.in-Err.is c.empty_tail.ensures)) c.full_tail.ensures.reads }
