-- What `dispatch` asks of a framed sentence, and whether its type is the one that a line must be of. Assumes nothing.
use Rattle.std.specs.Prelude.{◌≡◌, ℕ, ◌≤◌, ◌&&◌, eqb, List, length, Ok}
use mathlib.Core.Path.{sym}
use mathlib.Core.Bool.{and-true}
use Rattle.frame.specs.Types.{alike}
use Rattle.frame.specs.Frame.{frame}
use Rattle.frame.specs.Answer.{letters, parts, framed}
use Rattle.frame.specs.declared.refusal.Kind.{Kind}
use Rattle.frame.specs.declared.sentence.Sentence.{Sentence}
use Rattle.frame.proofs.Within.{within}

pub framed_within : (s : List ℕ) (x : Sentence) → framed s (Ok x) ≡ frame s → x.to ≤ length s
framed_within s x h = within s (parts s x) (sym h)

pub alike_letters : (a b : Kind) → alike (letters a) (letters b) ≡ (eqb a.0 b.0 && (eqb a.1 b.1 && eqb a.2 b.2))
unfolding alike
alike_letters a b = rw and-true
