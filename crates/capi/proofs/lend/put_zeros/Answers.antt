-- `put_zeros` meets its contract: the part is filled. Assumes nothing.
use Rattle.std.proofs.Common.{◌-◌, arith, length-take, length-drop, refl, ap, ◌∙◌}
use Rattle.std.proofs.lemmas.List.{length-replicate}
use Rattle.words.specs.Part.{zeros}
use Rattle.words.proofs.Stores.{over}
use Rattle.capi.proofs.lend.put_zeros.Goals as goal

pub returns : goal.returns
returns c =
    let a = c.args in
    let n = 293 - a.from in
    over a.out.now a.from n n c.fill.new.self (zeros n) (c.fill.ensures.after (λ y h. h) ∙ ap zeros (simp (length-take, length-drop) (omega (arith, c.requires.from, c.requires.room)))) refl
    (length-replicate n 0) (omega (arith, c.requires.from, c.requires.room))
