-- What `get` lends is the part of the text, or nothing where the range does not lie in it. Assumes nothing.
use mathlib.Core.Path.{refl}
use Rattle.frame.proofs.Ranges.{ranged}
use Rattle.frame.proofs.sentence.Sentence.data.Goals as goal

pub returns : goal.returns
returns c = let a = c.args in ranged a.s.now a.self.from a.self.to _ _ c.get.ensures.lookup c.unwrap_or.ensures refl
