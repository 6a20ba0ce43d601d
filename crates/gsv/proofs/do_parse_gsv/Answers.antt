-- `do_parse_gsv` meets its contract: the head, and behind it the entries. Assumes nothing.
use mathlib.Core.Path.{◌∙◌}
use Rattle.text.proofs.Texts.{whole}
use Rattle.text.proofs.Finding.{finding}
use Rattle.gsv.specs.Gsv.{gsv}
use Rattle.gsv.specs.Answer.{gsv_data}
use Rattle.gsv.proofs.Heads.{behind-head}
use Rattle.gsv.proofs.do_parse_gsv.Goals as goal

pub returns-in_err-h : goal.returns-in_err-h
unfolding gsv
returns-in_err-h c = whole _ 0 gsv gsv_data 0 (search finding depth 14)

pub returns : goal.returns
returns c = c.with_entries.ensures ∙ behind-head c.do_parse_head.ensures c.in_ok-h.was
