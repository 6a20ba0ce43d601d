-- Greedy packing at work, by computing: four entries at most go into a piece, and no more than the room.
use Prim.Native.Nat.{ℕ}
use mathlib.Core.Path.{◌≡◌, refl}
use mathlib.Core.List.{[], ◌∷◌}
use Rattle.pack.specs.Cut.{more, piece_count}

abbrev itself : ℕ → ℕ
itself n = n

none-cut : piece_count itself 10 [] ≡ 0
unfolding more
none-cut = refl

-- four fit, the fifth begins a piece
by-count : piece_count itself 10 (1 ∷ 1 ∷ 1 ∷ 1 ∷ 1 ∷ []) ≡ 2
unfolding more
by-count = refl

-- two of six do not fit into ten, and the three goes with the second
by-weight : piece_count itself 10 (6 ∷ 6 ∷ 3 ∷ 2 ∷ []) ≡ 3
unfolding more
by-weight = refl
