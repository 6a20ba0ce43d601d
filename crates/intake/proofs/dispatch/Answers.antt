-- `dispatch` meets its contract: the formatter decides who takes the line. The check finds every arm but that of GSA, of which any table is
-- what it was. Assumes nothing.
use Rattle.answer.specs.Sentence.{dispatch}
use Rattle.intake.proofs.dispatch.Goals as goal

pub returns-in-Gsa : goal.returns-in-Gsa
unfolding dispatch
returns-in-Gsa c = rw (← c.in-Gsa.ensures) (c.take_gsa.ensures _)
