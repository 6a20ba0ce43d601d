-- How many indices there are of which something holds.
use Rattle.std.specs.Prelude.{ℕ, ◌<◌, ◌≡◌, ◌⊎◌, ◌↔◌, List, [], ◌∷◌, length}
use Rattle.groups.specs.Left.{All}

-- i is one of them
abbrev pub Among : ℕ → List ℕ → Type 0
Among i [] = ⊥
Among i (j ∷ js) = (i ≡ j) ⊎ Among i js

-- each is smaller than all that follow, and so none stands twice
abbrev pub Rising : List ℕ → Type 0
Rising [] = Unit {0}
Rising (i ∷ is) = All (λ j. i < j) is × Rising is

-- n indices: a rising list of n numbers has those of which P holds, and no other
pub record Many (P : ℕ → Type 0) (n : ℕ) : Type 0 where
  pub indices : List ℕ
  pub rising : Rising indices
  pub those : (i : ℕ) → Among i indices ↔ P i
  pub count : length indices ≡ n
