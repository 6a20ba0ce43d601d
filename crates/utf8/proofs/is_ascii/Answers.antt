-- `utf8::is_ascii` meets its contract. The invariant: the text is ASCII exactly where the largest of the bytes passed is below 0x80 and
-- what is left of the text is ASCII. Assumes nothing.
use native.Mathlib.Omega.{arith}
use mathlib.Core.Path.{sym, ◌∙◌}
use Rattle.utf8.proofs.Ascii.{one-octet, no-octet}
use Rattle.utf8.proofs.is_ascii.Goals as goal

pub loop-b-preserved : goal.loop-b-preserved
loop-b-preserved c = c.loop-b.invariant ∙ one-octet c.args.s.now _ _ c.loop-b-test.true (omega arith)

pub returns : goal.returns
returns c = sym (c.loop-b.invariant ∙ no-octet c.args.s.now _ c.loop-b.top c.loop-b-test.false)
