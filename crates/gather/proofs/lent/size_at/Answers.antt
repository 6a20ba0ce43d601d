-- `size_at` meets its contract: the digits of the four words, and a comma for each. Assumes nothing.
use Rattle.gather.proofs.Greedy.{sized}
use Rattle.gather.proofs.lent.size_at.Goals as goal

pub returns : goal.returns
returns c = sized _ _ _ _ _ c.digits-a.ensures c.opt_digits-b.ensures c.opt_digits-c.ensures c.opt_digits-d.ensures
