-- Each byte is taken off the front of what is left: of the sum, of the look for `*`, and of the test for ASCII. Assumes nothing.
use Prim.Native.Nat.{max}
use native.Mathlib.Omega.{arith}
use mathlib.Core.Path.{◌≡◌, refl, sym, ◌∙◌}
use lib.ListN.{get_or}
use Rattle.text.specs.Bytes.{byte}
use Rattle.utf8.proofs.Ascii.{one-octet}
use Rattle.frame.proofs.Sums.{sum-here, sum-end}
use Rattle.frame.proofs.Stars.{one-marked, all-marked}
use Rattle.frame.proofs.pass.one_pass.Goals as goal

pub loop-i-init : goal.loop-i-init
loop-i-init c =
    let s = c.args.s.now in
    let first : get_or s 0 0 ≡ max 0 (get_or s 0 0) = omega arith in
    record { sum = refl; star = refl; top = one-octet s 0 0 {next = get_or s 0 0} (omega arith) first }

pub loop-i-preserved : goal.loop-i-preserved
loop-i-preserved c =
    let a = c.args in
    let s = a.s.now in
    let i = c.loop-i.i in
    let v = c.loop-i.invariant in
    record {
      sum = v.sum ∙ sum-here s i a.to _ (omega arith) (omega arith);
      star = v.star ∙ one-marked s i a.to _ (byte "*") (omega arith) (omega arith);
      top = v.top ∙ one-octet s i _ (omega arith) (omega arith);
    }

pub returns-clause-sum : goal.returns-clause-sum
returns-clause-sum c =
    let a = c.args in
    sym (c.loop-i.invariant.sum ∙ sum-end a.s.now c.loop-i.i a.to _ (omega arith))

pub returns-clause-star : goal.returns-clause-star
returns-clause-star c =
    let a = c.args in
    sym (c.loop-i.invariant.star ∙ all-marked a.s.now c.loop-i.i a.to _ (byte "*") (omega arith))
