-- A log has at most as many lines as bytes: each has a byte at least, its own or its line feed. Assumes nothing.
use Prim.Native.Nat.{ℕ, suc, ◌≤◌}
use native.Mathlib.Omega.{arith}
use mathlib.Core.List.{List, [], ◌∷◌}
use mathlib.Core.Bool.{Bool, true, false, cond}
use lib.Dec.{eqb}
use lib.ListN.{length, length-map}
use Rattle.lines.specs.Lines.{line_feed, onto, stretches, trim, lines}

few : (l : List ℕ) → length (stretches l) ≤ length l
unfolding stretches
few [] = omega arith
few (b ∷ l) = go (eqb b line_feed) (stretches l) (few l)
  where
    go : (t : Bool) (r : List (List ℕ)) → length r ≤ length l → length (cond t ([] ∷ r) (onto b r)) ≤ suc (length l)
    go true r h = omega arith
    go false [] h = omega arith
    go false (s ∷ ss) h = omega arith

-- THE THEOREM: so an allowance of as many lines as bytes takes all lines
pub at-most-bytes : (l : List ℕ) → length (lines l) ≤ length l
unfolding lines
at-most-bytes l = omega (arith, length-map (stretches l) trim, few l)
