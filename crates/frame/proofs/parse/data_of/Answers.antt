-- `data_of` meets its contract: the data of an accepted line lie in it, and a refused line has none. Assumes nothing.
use mathlib.Core.Path.{ap, sym, ◌∙◌}
use Rattle.frame.specs.Frame.{data_in}
use Rattle.frame.proofs.Within.{data-within}
use Rattle.frame.proofs.parse.data_of.Goals as goal

pub returns-in-Ok : goal.returns-in-Ok
returns-in-Ok c = let e = sym c.in-Ok.ensures in c.data.ensures ∙ data-within c.args.line.now c.in-Ok.x e ∙ sym (ap data_in e)
