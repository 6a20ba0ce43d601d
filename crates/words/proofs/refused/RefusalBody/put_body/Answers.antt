-- `put_body` meets its contract: the part is written over by the values. Assumes nothing.
use native.Mathlib.Omega.{arith}
use mathlib.Core.Path.{refl, ◌∙◌}
use Rattle.frame.specs.Answer.{refused}
use Rattle.words.specs.Part.{padded}
use Rattle.words.specs.Lengths.{padded-long}
use Rattle.words.proofs.Stores.{over}
use Rattle.words.proofs.refused.RefusalBody.put_body.Goals as goal

pub returns : goal.returns
returns c =
    let a = c.args in
    let values = (refused a.self).carries in
    over a.out.now 3 6 6 c.copy_from_slice.new.self (padded 6 values) (c.copy_from_slice.ensures.after ∙ c.values_of-values.ensures) refl (padded-long 6 values) (omega arith)
