-- Entries cut, in order, into pieces of at most four, each of a weight that a line has room for.
use Rattle.std.specs.Prelude.{ℕ, suc, ◌+◌, ◌≤◌, ◌≡◌, Bool, ◌&&◌, cond, ltb, leb, length}
use mathlib.Core.List.{List, [], ◌∷◌, flatten}
use Rattle.groups.specs.Left.{All}

-- a line has four entries
abbrev pub entry_max : ℕ
entry_max = 4

-- es is cut into j pieces, each of which is P
pub record Cut {A : Type 0} (P : List A → Type 0) (j : ℕ) (es : List A) : Type 0 where
  pub pieces : List (List A)
  pub count : length pieces ≡ j
  pub whole : flatten pieces ≡ es
  pub each : All P pieces

module _ {A : Type 0} (w : A → ℕ) where
  abbrev pub weight : List A → ℕ
  weight [] = 0
  weight (e ∷ es) = w e + weight es

  -- there is room for e behind c entries of weight u
  abbrev pub has_room : ℕ → ℕ → ℕ → A → Bool
  has_room room c u e = ltb c entry_max && leb (u + w e) room

  -- GREEDY: how many more pieces are begun, where the one at hand has c entries of weight u
  unfoldable pub more : ℕ → ℕ → ℕ → List A → ℕ
  more room c u [] = 0
  more room c u (e ∷ es) =
      let t = has_room room c u e in
      cond t 0 1 + more room (cond t (suc c) 1) (cond t (u + w e) (w e)) es

  -- at first none is at hand
  abbrev pub piece_count : ℕ → List A → ℕ
  piece_count room es = more room entry_max 0 es

pub record Light {A : Type 0} (w : A → ℕ) (room : ℕ) (p : List A) : Type 0 where
  pub few : length p ≤ entry_max
  pub light : weight w p ≤ room
