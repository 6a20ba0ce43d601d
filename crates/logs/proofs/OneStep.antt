-- What a step answers, test by test as the code asks them: each answer is what `step_of` has there. Assumes nothing.
use Rattle.std.proofs.Common.{◌≡◌, ℕ, ◌≤◌, true, List, length, ap, ◌∙◌, subst, le-ltb, eq-eqb, ne_eqb, Option, Result, Ok, Err}
use mathlib.Core.Option.{none, some}
use Rattle.frame.specs.Answer.{refused as refusal}
use Rattle.frame.specs.declared.refusal.Refusal.{Refusal}
use Rattle.sentence.specs.declared.Record.{Record}
use Rattle.lines.specs.Places.{is_place, line_at, next_place}
use Rattle.gather.specs.declared.line.Outcome.{Outcome}
use Rattle.fed.specs.Line.{LogLine, said_of, accepted_gsv, Gatherer, gathers}
use Rattle.logs.specs.declared.step.Stepped.TheVariants.{End, Line}
use Rattle.logs.specs.Step.{longest, refused, end, line, Stepped, idle, step_at, step_of}
use Rattle.logs.specs.Answer.{line_in, Follows, SaysStep}
use Rattle.logs.specs.Code.{SaysLine, barred_by}
use Rattle.logs.proofs.Places.{place-within}
use Rattle.logs.proofs.Start.{at-bar, no-bar}

module _ (log : List ℕ) (p : ℕ) (g : Gatherer) where
  pub good-place : length log ≤ longest → is_place log p ≡ true → step_at log p g ≡ step_of log p g
  unfolding step_of
  good-place h e = simp (le-ltb longest (length log) h, e)

  pub at-line : (p ≡ length log → ⊥)
      → ◌≡◌ {A = Stepped} (record { answer = line (said_of (line_at log p)) (next_place log p); gathered = gathers g (accepted_gsv (said_of (line_at log p))) }) (step_at log p g)
  unfolding step_at
  at-line n = simp (ne_eqb p (length log) n)

  pub at-end : p ≡ length log → idle (end p) g ≡ step_at log p g
  unfolding step_at
  at-end e = simp (eq-eqb p (length log) e)

-- THE STEPS, as the code answers them
module _ (log : List ℕ) (p : ℕ) (g : Gatherer) where
  pub step-barred : {x : Refusal} → some (refusal x) ≡ barred_by log p → SaysStep (step_of log p g) g (Err x)
  unfolding step_of
  step-barred {x} e =
      let s : idle (refused (refusal x)) g ≡ step_of log p g = at-bar log p (λ r. idle (refused r) g) (step_at log p g) e in
      record { says = ap (λ (y : Stepped). y.answer) s; gathered = ap (λ (y : Stepped). y.gathered) s }

  module _ (free : none ≡ barred_by log p) where
    here : step_at log p g ≡ step_of log p g
    here = let (short, place) = no-bar log p free in good-place log p g short place

    pub step-within : p ≤ length log
    step-within = place-within log p (no-bar log p free).1

    pub step-end : p ≡ length log → SaysStep (step_of log p g) g (Ok (End p))
    step-end e =
        let s : idle (end p) g ≡ step_of log p g = at-end log p g e ∙ here in
        record { says = ap (λ (y : Stepped). y.answer) s; gathered = ap (λ (y : Stepped). y.gathered) s }

    pub step-line : (p ≡ length log → ⊥) → (l : Option (Result Record Refusal)) (next : ℕ) → SaysLine log p (l, next) → {t' : List ℕ} {o : Outcome}
        → Follows (accepted_gsv (line_in l)) g t' o → SaysStep (step_of log p g) t' (Ok (Line l o next))
    step-line n l next says {t'} {o} x =
        subst (λ (s : Stepped). SaysStep s t' (Ok (Line l o next))) (at-line log p g n ∙ here)
        (record {
          says = λ i. line (says.says i) (says.next i);
          gathered = (λ i. record { gatherer = x.words i; handed = x.says i }) ∙ ap (λ (s : LogLine). gathers g (accepted_gsv s)) says.says;
        })
