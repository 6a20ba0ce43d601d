-- `put_zeros` meets its contract: the part is filled. Assumes nothing.
use Rattle.std.proofs.Common.{◌+◌, ◌-◌, arith, length-take, length-drop, ap, ◌∙◌}
use Rattle.std.proofs.lemmas.List.{length-replicate}
use Rattle.words.specs.Part.{zeros}
use Rattle.words.proofs.Stores.{over}
use Rattle.words.proofs.part.put_zeros.Goals as goal

pub returns : goal.returns
returns c =
    let a = c.args in
    over a.out.now a.at a.n (a.at + a.n - a.at) c.fill.new.self (zeros a.n)
    (c.fill.ensures.after (λ y h. h) ∙ ap zeros (simp (length-take, length-drop) (omega arith))) (omega arith) (length-replicate a.n 0) c.requires
