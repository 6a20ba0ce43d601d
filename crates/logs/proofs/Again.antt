-- Steps one after the other: at the end they change nothing, so that as many as the allowance are as many as there are lines left; and they
-- may be taken in parts. Assumes nothing.
use Rattle.std.proofs.Common.{◌≡◌, ℕ, zero, suc, ◌+◌, ◌-◌, ◌<◌, ◌≤◌, true, List, length, sym, refl, ap, ◌∙◌, ⊎_elim, arith}
use Rattle.lines.specs.Places.{is_place}
use Rattle.lines.proofs.Next.{next-place}
use Rattle.fed.specs.Line.{Gatherer}
use Rattle.logs.specs.Step.{Stepped, step_at}
use Rattle.logs.specs.Walk.{Going, onward, steps}
use Rattle.logs.proofs.Places.{place-within}
use Rattle.logs.proofs.Goes.{going, going-next, onward-line, onward-end, go_on, go-none, go-end, go-more}
use Rattle.logs.proofs.Sums.{upto}

-- m steps and then k, whatever answers them
pub steps-add : (step : ℕ → Gatherer → Stepped) (m k : ℕ) (w : Going) → steps step (m + k) w ≡ steps step k (steps step m w)
unfolding steps
steps-add step zero k w = let z : 0 + k ≡ k = omega arith in ap (λ (j : ℕ). steps step j w) z
steps-add step (suc m) k w =
    let z : suc m + k ≡ suc (m + k) = omega arith in
    ap (λ (j : ℕ). steps step j w) z ∙ steps-add step m k (onward step w)

module _ (log : List ℕ) where
  -- a step comes to a place
  pub onward-place : (w : Going) → is_place log w.counts.next ≡ true → is_place log (onward (step_at log) w).counts.next ≡ true
  onward-place w e = ⊎_elim
      (λ h.
      ap (λ (v : Going). is_place log v.counts.next) (onward-line log w (λ q. omega arith))
      ∙ ap (is_place log) (going-next log w)
      ∙ next-place log w.counts.next (omega arith))
      (λ k.
      let z : w.counts.next ≡ length log = omega (arith, place-within log w.counts.next e) in
      ap (λ (v : Going). is_place log v.counts.next) (onward-end log w z) ∙ e)
      (upto w.counts.next (length log))

  -- at the end, steps change nothing
  pub steps-ended : (k : ℕ) (w : Going) → is_place log w.counts.next ≡ true → length log ≤ w.counts.next → steps (step_at log) k w ≡ w
  unfolding steps
  steps-ended zero w e h = refl
  steps-ended (suc k) w e h =
      let z : w.counts.next ≡ length log = omega (arith, place-within log w.counts.next e) in
      ap (steps (step_at log) k) (onward-end log w z) ∙ steps-ended k w e h

  pub enough : (n : ℕ) (w : Going) → is_place log w.counts.next ≡ true → go_on log n w ≡ steps (step_at log) n w
  unfolding steps
  enough zero w e = go-none log zero w refl
  enough (suc n) w e = ⊎_elim
      (λ h.
      let z : suc n - 1 ≡ n = omega arith in
      let pos : 0 < suc n = omega arith in
      go-more log (suc n) w pos h
      ∙ ap (λ (k : ℕ). go_on log k (going log w)) z
      ∙ enough n (going log w) (ap (is_place log) (going-next log w) ∙ next-place log w.counts.next (omega arith))
      ∙ ap (steps (step_at log) n) (sym (onward-line log w (λ q. omega arith))))
      (λ k. go-end log (suc n) w k ∙ sym (steps-ended (suc n) w e k))
      (upto w.counts.next (length log))
