-- What a walk of the whole log says, in words: its refusal's number, or its totals. Assumes nothing.
use Rattle.std.proofs.Common.{◌≡◌, ℕ, ◌≤◌, List, [], ◌∷◌, ◌++◌, length, drop, set, refl, subst, arith, Ok, Err}
use Rattle.frame.specs.Answer.{number_of}
use Rattle.frame.specs.declared.refusal.Refusal.{Refusal}
use Rattle.gather.specs.Table.{fresh_table}
use Rattle.logs.specs.Walk.{Walk, walk_of}
use Rattle.logs.specs.Answer.{walk_in}
use Rattle.logs.specs.declared.walk.Counts.{Counts}
use Rattle.capi.specs.Totals.{totals_of, Tells}

module _ (log before : List ℕ) where
  pub tells-refused : (x : Refusal) {n : ℕ} → walk_in (Err x) ≡ (walk_of log 0 (length log) fresh_table).answer → n ≡ number_of x
      → Tells (walk_of log 0 (length log) fresh_table).answer before before n
  tells-refused x {n} e q = subst (λ (w : Walk). Tells w before before n) e (q, refl)

  pub tells-went : (c : Counts) (after : List ℕ) → walk_in (Ok c) ≡ (walk_of log 0 (length log) fresh_table).answer → after ≡ totals_of c ++ drop 5 before
      → Tells (walk_of log 0 (length log) fresh_table).answer before after 0
  tells-went c after e q = subst (λ (w : Walk). Tells w before after 0) e (refl, q)

-- five words stored one after the other
pub five-stored : (l : List ℕ) (a b c d e : ℕ) → 5 ≤ length l
    → set (set (set (set (set l 0 a) 1 b) 2 c) 3 d) 4 e ≡ a ∷ b ∷ c ∷ d ∷ e ∷ drop 5 l
five-stored [] a b c d e h = absurd (omega arith)
five-stored (v ∷ []) a b c d e h = absurd (omega arith)
five-stored (v ∷ w ∷ []) a b c d e h = absurd (omega arith)
five-stored (v ∷ w ∷ x ∷ []) a b c d e h = absurd (omega arith)
five-stored (v ∷ w ∷ x ∷ y ∷ []) a b c d e h = absurd (omega arith)
five-stored (v ∷ w ∷ x ∷ y ∷ z ∷ l) a b c d e h = refl
