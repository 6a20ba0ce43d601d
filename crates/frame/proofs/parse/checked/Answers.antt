-- A line that is ASCII goes by its length and its parts; any other by whether it is valid UTF-8. Assumes nothing.
use mathlib.Core.Path.{sym, ◌∙◌}
use Rattle.frame.proofs.Judged.{frame-ascii, frame-high, frame-bad}
use Rattle.frame.proofs.parse.checked.Goals as goal

pub returns-then-is_ascii : goal.returns-then-is_ascii
returns-then-is_ascii c = c.sized.ensures ∙ sym (frame-ascii c.args.s.now (sym c.is_ascii.ensures ∙ c.if-is_ascii.true))

pub returns-then-is_utf8 : goal.returns-then-is_utf8
returns-then-is_utf8 c =
    sym (frame-high c.args.s.now (sym c.is_ascii.ensures ∙ c.if-is_ascii.false) (sym c.is_utf8.ensures ∙ c.if-is_utf8.true))

pub returns : goal.returns
returns c = sym (frame-bad c.args.s.now (sym c.is_utf8.ensures ∙ c.if-is_utf8.false))
