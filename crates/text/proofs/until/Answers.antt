-- `until` meets its contract: none of the bytes passed so far is the one that is looked for, so the first that is ends the text. Assumes nothing.
use native.Mathlib.Omega.{arith}
use mathlib.Core.Path.{◌∙◌}
use Rattle.text.proofs.Places.{a-read, no-read}
use Rattle.text.proofs.Parts.{until-start, until-stop, until-more, until-end}
use Rattle.text.proofs.until.Goals as goal

pub loop-i-init : goal.loop-i-init
loop-i-init c = (omega arith, omega arith, until-start c.args.s.now c.args.at _)

pub returns-then-s-i : goal.returns-then-s-i
returns-then-s-i c =
    let k = c.loop-i in
    let a = c.args in
    record { reads = a-read (k.invariant.2 ∙ until-stop a.s.now a.at _ _ c.loop-i-test.true c.if-s-i.true) k.invariant.0 k.invariant.1 }

pub loop-i-preserved : goal.loop-i-preserved
loop-i-preserved c =
    let k = c.loop-i in
    let a = c.args in
    (omega arith, omega arith, k.invariant.2 ∙ until-more a.s.now a.at _ _ k.invariant.0 c.loop-i-test.true c.if-s-i.false)

pub returns : goal.returns
returns c =
    let a = c.args in
    record { reads = no-read (c.loop-i.invariant.2 ∙ until-end a.s.now a.at _ _ c.loop-i-test.false) }
