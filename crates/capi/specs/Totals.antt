-- The totals of a whole log, in words.
use Rattle.std.specs.Prelude.{◌≡◌, ℕ, ◌<◌, ◌≤◌, List, [], ◌∷◌, ◌++◌, length, drop}
use Rattle.gather.specs.Table.{fresh_table}
use Rattle.logs.specs.Walk.{Walk, barred, went, walk_of}
use Rattle.logs.specs.declared.walk.Counts.{Counts}
use Rattle.capi.specs.Answer.{done, undone}

abbrev pub totals_of : Counts → List ℕ
totals_of c = c.lines ∷ c.blank ∷ c.accepted ∷ c.refused ∷ c.groups ∷ []

-- the answer r and the buffer after it: the totals in its first words, or a refusal and the buffer as it was
abbrev pub Tells : Walk → List ℕ → List ℕ → ℕ → Type 0
Tells (barred x) before after r = (r ≡ x.number) × (after ≡ before)
Tells (went c) before after r = (r ≡ done) × (after ≡ totals_of c ++ drop 5 before)

-- place 0, a fresh gatherer, and all lines, of which there are at most as many as bytes
pub record WalkedAll (log before after : List ℕ) (r : ℕ) : Type 0 where
  pub written : 5 ≤ length before → Tells (walk_of log 0 (length log) fresh_table).answer before after r
  pub short : length before < 5 → (r ≡ undone) × (after ≡ before)
