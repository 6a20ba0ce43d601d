-- `utf8::is_utf8` meets its contract. The invariant: the state after the whole text is the one after what is left of it, from the
-- present state. Each turn takes one byte off what is left, and at the end nothing is left. Assumes nothing.
use mathlib.Core.Path.{ap, sym, ◌∙◌}
use Rattle.utf8.specs.Utf8.{may_end}
use Rattle.utf8.proofs.Pieces.{one-more, no-more}
use Rattle.utf8.proofs.is_utf8.Goals as goal

pub loop-b-preserved : goal.loop-b-preserved
loop-b-preserved c = c.loop-b.invariant ∙ one-more c.args.s.now _ _ c.loop-b-test.true c.step-state.ensures

pub returns : goal.returns
returns c = c.whole.ensures ∙ sym (ap may_end (c.loop-b.invariant ∙ no-more c.args.s.now _ _ c.loop-b-test.false))
