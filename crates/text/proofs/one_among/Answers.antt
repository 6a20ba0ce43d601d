-- `one_among` meets its contract: by the byte that stands there, and whether the list has it. `n` speaks of the list that was asked, `m` of the
-- letters. Assumes nothing.
use mathlib.Core.Path.{◌≡◌, ◌∙◌, sym}
use mathlib.Core.Bool.{true, false}
use native.Mathlib.Omega.{arith}
use Rattle.text.specs.Reader.{among}
use Rattle.text.proofs.Places.{a-read, no-read, not-there}
use Rattle.text.proofs.Letters.{among-any, none-out, among-past, among-got, among-miss}
use Rattle.text.proofs.one_among.Goals as goal

pub returns-in-Some : goal.returns-in-Some
returns-in-Some c =
    let h = c.in-Some.ensures.lookup.3.0 in
    let e = sym (c.in-Some.ensures.lookup.3.1 0) in
    let n = sym (among-any c.in-Some.c.now _) ∙ sym c.contains.ensures.value ∙ c.if-contains.true in
    let m : among c.in-Some.c.now c.args.letters.now ≡ true = grind (arith, none-out, n) in
    record { reads = rw (sym e) (a-read (among-got _ _ _ h (rw e m)) (omega arith) (omega arith)) }

pub returns-in_default : goal.returns-in_default
returns-in_default c =
    let h = c.in-Some.ensures.lookup.3.0 in
    let e = sym (c.in-Some.ensures.lookup.3.1 0) in
    let n = sym (among-any c.in-Some.c.now _) ∙ sym c.contains.ensures.value ∙ c.if-contains.false in
    let m : among c.in-Some.c.now c.args.letters.now ≡ false = grind (arith, none-out, n) in
    record { reads = no-read (among-miss _ _ _ h (rw e m)) }

pub returns-in_default-2 : goal.returns-in_default-2
returns-in_default-2 c = record { reads = no-read (among-past _ _ _ (not-there _ _ _ c.get.ensures.lookup.0 c.in_default.is)) }
