-- What a walk answers, test by test as the code asks them: each answer is what `walk_of` has there. Assumes nothing.
use Rattle.std.proofs.Common.{◌≡◌, ℕ, ◌-◌, ◌≤◌, min, List, length, drop, sym, ap, ◌∙◌, arith, Result, Ok, Err}
use mathlib.Core.Option.{none, some}
use Rattle.frame.specs.Answer.{refused as refusal}
use Rattle.frame.specs.declared.refusal.Refusal.{Refusal}
use Rattle.lines.specs.Lines.{lines}
use Rattle.fed.specs.Line.{Gatherer}
use Rattle.logs.specs.declared.walk.Counts.{Counts}
use Rattle.logs.specs.Step.{step_of}
use Rattle.logs.specs.Walk.{steps, begin, barred, Walked, gone, walk_of}
use Rattle.logs.specs.Answer.{walk_in, SaysWalk}
use Rattle.logs.specs.Code.{barred_by}
use Rattle.logs.proofs.Start.{at-bar, no-bar}
use Rattle.logs.proofs.Goes.{go_on, go-none, go-end, Goes}
use Rattle.logs.proofs.Limit.{walk-is}

answered : (a : Result Counts Refusal) (g : Gatherer) {w : Walked} → ◌≡◌ {A = Walked} (record { answer = walk_in a; gatherer = g }) w
    → SaysWalk w g a
answered a g e = record { says = ap (λ (v : Walked). v.answer) e; gatherer = ap (λ (v : Walked). v.gatherer) e }

module _ (log : List ℕ) (p n : ℕ) (g : Gatherer) where
  pub walk-barred : {x : Refusal} → some (refusal x) ≡ barred_by log p → SaysWalk (walk_of log p n g) g (Err x)
  unfolding walk_of
  walk-barred {x} e =
      answered (Err x) g
      (at-bar log p (λ r. record { answer = barred r; gatherer = g }) (gone (steps (step_of log) (min n (length (lines (drop p log)))) (begin p g))) e)

  module _ (free : none ≡ barred_by log p) (c : Counts) (a : Gatherer) (w : Goes log p n g c a) where
    -- no step is left
    walk-done : go_on log (n - c.lines) (record { counts = c; gatherer = a }) ≡ record { counts = c; gatherer = a }
        → SaysWalk (walk_of log p n g) a (Ok c)
    walk-done e =
        let (short, place) = no-bar log p free in
        answered (Ok c) a (sym (walk-is log short p n g place ∙ ap gone (w.same ∙ e)))

    -- the allowance is used up
    pub walk-used : n ≤ c.lines → SaysWalk (walk_of log p n g) a (Ok c)
    walk-used h =
        let z : n - c.lines ≡ 0 = omega arith in
        walk-done (go-none log (n - c.lines) (record { counts = c; gatherer = a }) z)

    -- no line is left
    pub walk-ended : length log ≤ c.next → SaysWalk (walk_of log p n g) a (Ok c)
    walk-ended h = walk-done (go-end log (n - c.lines) (record { counts = c; gatherer = a }) h)
