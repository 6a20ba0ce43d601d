-- `commas` meets its contract: past the first comma, what is skipped from there is what is skipped from `i`. The measure is
-- what is left of the text. Assumes nothing.
use native.Mathlib.Omega.{arith}
use mathlib.Core.Path.{◌≡◌, refl, ap, subst, ◌∙◌}
use lib.ListN.{length}
use Rattle.std.specs.Prelude.{Ok}
use Rattle.text.specs.Bytes.{byte}
use Rattle.text.specs.Many.{take_while1}
use Rattle.text.specs.Answer.{Finds, told, next}
use Rattle.text.proofs.Places.{a-read, go}
use Rattle.text.proofs.Finding.{finding}
use Rattle.gsa.proofs.Ends.{skip-more, skip-stop, skip-end, byte-within}
use Rattle.gsa.proofs.commas.Goals as goal

pub returns-in_err-first : goal.returns-in_err-first
unfolding take_while1
returns-in_err-first c = search finding depth 14

pub loop-i-init : goal.loop-i-init
loop-i-init c = (omega arith, byte-within _ (rw c.in_ok-first.was at c.byte.ensures.reads), refl)

pub returns-then-s-i-ne44 : goal.returns-then-s-i-ne44
unfolding take_while1
returns-then-s-i-ne44 c =
    let l = c.loop-i in
    record {
      reads = go _ c.byte.ensures.reads (ap (told next) c.in_ok-first.was)
          (a-read (l.invariant.2 ∙ skip-stop _ _ _ c.loop-i-test.true c.if-s-i-ne44.true) l.invariant.0 (omega arith));
    }

pub loop-i-preserved : goal.loop-i-preserved
loop-i-preserved c =
    let l = c.loop-i in
    (omega arith, omega arith, l.invariant.2 ∙ skip-more _ _ _ c.loop-i-test.true c.if-s-i-ne44.false)

pub returns : goal.returns
unfolding take_while1
returns c =
    let l = c.loop-i in
    let a = c.args in
    let e : l.i ≡ length a.s.now = omega arith in
    subst (λ p. Finds a.s.now a.at (take_while1 (byte ",")) next (Ok p)) e
    (record {
      reads = go _ c.byte.ensures.reads (ap (told next) c.in_ok-first.was)
          (a-read (l.invariant.2 ∙ skip-end _ _ _ c.loop-i-test.false) l.invariant.0 (omega arith));
    })
