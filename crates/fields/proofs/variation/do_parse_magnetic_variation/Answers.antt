-- `do_parse_magnetic_variation` meets its contract: a decimal, a comma, a letter, and W negates. Assumes nothing.
use Rattle.text.proofs.Finding.{finding}
use Rattle.decimal.proofs.Facts.{short-held}
use Rattle.fields.specs.Variation.{do_variation}
use Rattle.fields.proofs.variation.do_parse_magnetic_variation.Goals as goal

pub returns-in_err-d : goal.returns-in_err-d
unfolding do_variation
returns-in_err-d c = search finding depth 14

pub returns-in_err-d-2 : goal.returns-in_err-d-2
unfolding do_variation
returns-in_err-d-2 c = search finding depth 14

pub returns-in_err-at : goal.returns-in_err-at
unfolding do_variation
returns-in_err-at c = search finding depth 14

pub returns-in_err-letter : goal.returns-in_err-letter
unfolding do_variation
returns-in_err-letter c = search finding depth 14 fits 5000

pub turned-requires : goal.turned-requires
turned-requires c = (short-held c.in_ok-d.ensures c.in_ok-d-2.ensures.ok_part).small

pub returns : goal.returns
unfolding do_variation
returns c = search finding depth 14 fits 5000
