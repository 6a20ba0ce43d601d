-- The words of a refusal: 5, which says that, its number in 1, how many values it carries in 2, and from 3 on the values, at most 6,
-- in the order of docs/LISTS.md.
use Rattle.std.specs.Prelude.{ℕ, List, ◌∷◌, ◌++◌, length}
use Rattle.frame.specs.Refused.{Refused}
use Rattle.words.specs.Part.{zeros, padded}

-- 2 to 8
abbrev pub carried_words : List ℕ → List ℕ
carried_words vs = length vs ∷ padded 6 vs

abbrev pub refused_words : Refused → List ℕ
refused_words r = 5 ∷ r.number ∷ (carried_words r.carries ++ zeros 31)
