-- What bars a walk, and what stands where nothing does. Assumes nothing.
use Rattle.std.proofs.Common.{◌≡◌, ℕ, ◌≤◌, Bool, true, false, cond, ltb, List, length, refl, ap, arith, ltb-false}
use Rattle.std.specs.Prelude.{Result, Ok, Err, IsErr, IsErrAnd}
use Rattle.frame.specs.declared.refusal.Refusal.{Refusal}
use mathlib.Core.Option.{none, some}
use Rattle.frame.specs.Refused.{Refused, log_too_long, bad_place}
use Rattle.lines.specs.Places.{is_place}
use Rattle.logs.specs.Step.{longest}
use Rattle.logs.specs.Code.{barred_by}

module _ (log : List ℕ) (p : ℕ) where
  -- where a refusal bars it, what two tests in their order make of the refusal
  pub at-bar : {A : Type 0} (f : Refused → A) (a : A) {r : Refused} → some r ≡ barred_by log p
      → f r ≡ cond (ltb longest (length log)) (f (log_too_long (length log))) (cond (is_place log p) a (f (bad_place p)))
  at-bar {A} f a {r} = go (ltb longest (length log)) (is_place log p)
    where
      go : (t u : Bool) → some r ≡ cond t (some (log_too_long (length log))) (cond u none (some (bad_place p)))
          → f r ≡ cond t (f (log_too_long (length log))) (cond u a (f (bad_place p)))
      go true u e = let z : r ≡ log_too_long (length log) = cc in ap f z
      go false true e = let z : ◌≡◌ {A = ℕ} 0 1 = cc in absurd (omega arith)
      go false false e = let z : r ≡ bad_place p = cc in ap f z

  -- and where none does
  pub no-bar : none ≡ barred_by log p → (length log ≤ longest) × (is_place log p ≡ true)
  no-bar = go (ltb longest (length log)) (is_place log p) refl refl
    where
      go : (t u : Bool) → ltb longest (length log) ≡ t → is_place log p ≡ u → none ≡ cond t (some (log_too_long (length log))) (cond u none (some (bad_place p)))
          → (length log ≤ longest) × (is_place log p ≡ true)
      go true u et eu e = let z : ◌≡◌ {A = ℕ} 0 1 = cc in absurd (omega arith)
      go false true et eu e = (ltb-false longest (length log) et, eu)
      go false false et eu e = let z : ◌≡◌ {A = ℕ} 0 1 = cc in absurd (omega arith)

-- what a refusal is handed on as
pub handed-on : {U : Type 0} (r : Result U Refusal) {e : Refusal} → IsErr r × IsErrAnd r (λ x. x ≡ e) → r ≡ Err e
handed-on (Ok v) (a, b) = absurd b
handed-on (Err x) (a, b) = ap Err b
