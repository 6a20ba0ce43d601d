-- `one_of` meets its contract: the byte at the place is tried against the two letters in the order of the definition. Assumes nothing.
use mathlib.Core.Path.{sym, ◌∙◌}
use native.Mathlib.Omega.{arith}
use Rattle.text.proofs.Places.{a-read, no-read, not-there}
use Rattle.text.proofs.Letters.{letter-past, letter-first, letter-second, letter-none}
use Rattle.text.proofs.one_of.Goals as goal

pub returns-in-Some : goal.returns-in-Some
returns-in-Some c =
    let h = c.in-Some.ensures.lookup.3.0 in
    let e = sym (c.in-Some.ensures.lookup.3.1 0) in
    record { reads = rw (sym e) (a-read (letter-first _ _ _ _ h (e ∙ c.if-c-a.true)) (omega arith) (omega arith)) }

pub returns-in-Some-2 : goal.returns-in-Some-2
returns-in-Some-2 c =
    let h = c.in-Some.ensures.lookup.3.0 in
    let e = sym (c.in-Some.ensures.lookup.3.1 0) in
    record { reads = rw (sym e) (a-read (letter-second _ _ _ _ h (rw e c.if-c-a.false) (e ∙ c.if-c-b.true)) (omega arith) (omega arith)) }

pub returns-in_default : goal.returns-in_default
returns-in_default c =
    let h = c.in-Some.ensures.lookup.3.0 in
    let e = sym (c.in-Some.ensures.lookup.3.1 0) in
    record { reads = no-read (letter-none _ _ _ _ h (rw e c.if-c-a.false) (rw e c.if-c-b.false)) }

pub returns-in_default-2 : goal.returns-in_default-2
returns-in_default-2 c = record { reads = no-read (letter-past _ _ _ _ (not-there _ _ _ c.get.ensures.lookup.0 c.in_default.is)) }
