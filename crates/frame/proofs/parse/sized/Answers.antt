-- The line is not too long, and each answer of `sentence` is one case of the definition. Assumes nothing.
use mathlib.Core.Path.{refl, ap, sym, ◌∙◌}
use Rattle.text.proofs.Places.{took}
use Rattle.frame.specs.Answer.{framed}
use Rattle.frame.proofs.Handed.{handed}
use Rattle.frame.proofs.Judged.{sized-long, sized-fault, sized-got}
use Rattle.frame.proofs.parse.sized.Goals as goal

pub returns-then-n-gt-MAX_LEN : goal.returns-then-n-gt-MAX_LEN
returns-then-n-gt-MAX_LEN c = sym (sized-long c.args.s.now c.if-n-gt-MAX_LEN.true)

pub returns-in_err-x : goal.returns-in_err-x
returns-in_err-x c =
    let s = c.args.s.now in
    ap (framed s) (handed _ c.from_residual.ensures) ∙ sym (sized-fault s c.if-n-gt-MAX_LEN.false _ c.in_err-x.ensures)

pub returns : goal.returns
returns c = c.compared.ensures ∙ sym (sized-got c.args.s.now c.if-n-gt-MAX_LEN.false (took c.in_ok-x.ensures.reads refl).reads)
