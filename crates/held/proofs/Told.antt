-- How the answer follows from framing's: the part held is the text read. Assumes nothing.
use Prim.Native.Nat.{ℕ}
use mathlib.Core.Path.{◌≡◌, ap, sym, ◌∙◌}
use mathlib.Core.List.{List}
use Rattle.std.specs.Prelude.{Ok}
use Rattle.frame.specs.Frame.{frame}
use Rattle.frame.specs.Answer.{framed, data_of}
use Rattle.frame.specs.declared.sentence.Sentence.{Sentence}
use Rattle.frame.proofs.Within.{data-within}
use Rattle.held.specs.Calculated.{sum_in, comes_to}
use Rattle.held.specs.Answer.{sum_of}

pub told_is : (s : List ℕ) (x : Sentence) {n : ℕ} → framed s (Ok x) ≡ frame s → n ≡ sum_of x.talker x.kind (data_of x s) → comes_to n ≡ sum_in (frame s)
told_is s x h g = ap comes_to (g ∙ ap (sum_of x.talker x.kind) (data-within s x (sym h))) ∙ ap sum_in h
