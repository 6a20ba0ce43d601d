-- `byte` meets its contract: past the end nothing stands, and within it the byte at the place is the one that the reader sees first. Assumes nothing.
use native.Mathlib.Omega.{arith}
use mathlib.Core.Path.{sym}
use borrow.Author.Tests.{eq-eqb, ne_eqb}
use Rattle.text.specs.Reader.{char}
use Rattle.text.proofs.Places.{here, ended, a-read, no-read, not-there}
use Rattle.text.proofs.byte.Goals as goal

pub returns-in-Some : goal.returns-in-Some
unfolding char
returns-in-Some c =
    let h = c.in-Some.ensures.lookup.3.0 in
    let e = sym (c.in-Some.ensures.lookup.3.1 0) in
    record { reads = a-read (rw (here _ _ h, e, eq-eqb _ _ c.if-c-b.true)) (omega arith) (omega arith) }

pub returns-in_default : goal.returns-in_default
unfolding char
returns-in_default c =
    let h = c.in-Some.ensures.lookup.3.0 in
    let e = sym (c.in-Some.ensures.lookup.3.1 0) in
    record { reads = no-read (rw (here _ _ h, e, ne_eqb _ _ c.if-c-b.false)) }

pub returns-in_default-2 : goal.returns-in_default-2
unfolding char
returns-in_default-2 c = record { reads = no-read (rw (ended _ _ (not-there _ _ _ c.get.ensures.lookup.0 c.in_default.is))) }
