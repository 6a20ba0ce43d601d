-- The checksum of a part, a byte at a time: the part begins with the byte at its first place. Assumes nothing.
use Prim.Native.Nat.{ℕ, ◌+◌, ◌≤◌, ◌<◌, min}
use native.Mathlib.Numerals.{add-one}
use native.Mathlib.Omega.{arith}
use mathlib.Core.Path.{◌≡◌}
use mathlib.Core.List.{List, [], ◌∷◌}
use lib.Bits.{bit_xor}
use lib.ListN.{length, take, get_or, length-take, drop_of_length-le}
use lib.Seq.{slice, drop-cons, get_or-take}
use Rattle.frame.specs.Checksum.{checksum_from}

module _ (s : List ℕ) (i to : ℕ) where
  pub part-here : i < to → i < length s → slice i to s ≡ get_or s i 0 ∷ slice (i + 1) to s
  part-here h k =
      let g : i < length (take to s) = simp length-take (omega arith) in
      rw (add-one, drop-cons (take to s) i 0 g, get_or-take to s i 0 h)

  pub part-over : min to (length s) ≤ i → slice i to s ≡ []
  part-over h =
      let g : length (take to s) ≤ i = simp length-take (omega arith) in
      drop_of_length-le (take to s) g

  pub sum-here : (x : ℕ) → i < to → i < length s → checksum_from x (slice i to s) ≡ checksum_from (bit_xor x (get_or s i 0)) (slice (i + 1) to s)
  unfolding checksum_from
  sum-here x h k = rw (part-here h k)

  pub sum-end : (x : ℕ) → min to (length s) ≤ i → checksum_from x (slice i to s) ≡ x
  unfolding checksum_from
  sum-end x h = rw (part-over h)
