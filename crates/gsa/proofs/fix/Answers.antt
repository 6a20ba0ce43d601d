-- `fix` meets its contract: the three digits stand side by side, so two tests tell them. Assumes nothing.
use mathlib.Core.Path.{sym}
use native.Mathlib.Omega.{arith}
use Rattle.text.proofs.Places.{a-read, no-read, not-there}
use Rattle.gsa.proofs.Ends.{fix-past, fix-below, fix-above, fix-is}
use Rattle.gsa.proofs.fix.Goals as goal

pub returns-in-Some : goal.returns-in-Some
returns-in-Some c =
    let h = c.in-Some.ensures.lookup.3.0 in
    let e = sym (c.in-Some.ensures.lookup.3.1 0) in
    record { reads = rw (sym e) (a-read (fix-is _ _ h (rw e c.if-b-ge49.true) (rw e c.if-b-le51.true)) (omega arith) (omega arith)) }

pub returns-in_default : goal.returns-in_default
returns-in_default c =
    let h = c.in-Some.ensures.lookup.3.0 in
    let e = sym (c.in-Some.ensures.lookup.3.1 0) in
    record { reads = no-read (fix-above _ _ h (rw e c.if-b-le51.false)) }

pub returns-in_default-2 : goal.returns-in_default-2
returns-in_default-2 c =
    let h = c.in-Some.ensures.lookup.3.0 in
    let e = sym (c.in-Some.ensures.lookup.3.1 0) in
    record { reads = no-read (fix-below _ _ h (rw e c.if-b-ge49.false)) }

pub returns-in_default-3 : goal.returns-in_default-3
returns-in_default-3 c = record { reads = no-read (fix-past _ _ (not-there _ _ _ c.get.ensures.lookup.0 c.in_default.is)) }
