-- The types that are tried first are in the list; any other is in it exactly where it is in the part that begins with its letter.
-- Assumes nothing.
use mathlib.Core.Path.{sym, ◌∙◌}
use Rattle.frame.proofs.Texts.{any-listed}
use Rattle.frame.proofs.sentence.known.Goals as goal

pub returns-then-is_read : goal.returns-then-is_read
returns-then-is_read c = sym (c.is_read.ensures c.if-is_read.true)

pub returns : goal.returns
returns c = c.contains.ensures.value ∙ any-listed _ _ ∙ sym (c.beginning.ensures _ _)
