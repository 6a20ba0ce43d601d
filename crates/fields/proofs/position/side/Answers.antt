-- `side` meets its contract: minutes, a comma, a letter, and the position that they make. Assumes nothing.
use Rattle.text.proofs.Finding.{finding}
use Rattle.decimal.proofs.Facts.{long-held}
use Rattle.fields.specs.Position.{side}
use Rattle.fields.proofs.position.side.Goals as goal

pub returns-in_err-minutes : goal.returns-in_err-minutes
unfolding side
returns-in_err-minutes c = search finding depth 14

pub returns-in_err-minutes-2 : goal.returns-in_err-minutes-2
unfolding side
returns-in_err-minutes-2 c = search finding depth 14

pub returns-in_err-at : goal.returns-in_err-at
unfolding side
returns-in_err-at c = search finding depth 14

pub returns-in_err-letter : goal.returns-in_err-letter
unfolding side
returns-in_err-letter c = search finding depth 14 fits 5000

pub located-requires : goal.located-requires
located-requires c = (long-held c.in_ok-minutes.ensures c.in_ok-minutes-2.ensures.ok_part).small

pub returns : goal.returns
unfolding side
returns c = search finding depth 14 fits 5000
