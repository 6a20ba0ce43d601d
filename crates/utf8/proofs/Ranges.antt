-- Whether an octet lies in a range is what its two bounds say, both ways. Assumes nothing.
use Prim.Native.Nat.{ℕ, ◌≤◌, ◌<◌}
use mathlib.Core.Path.{◌≡◌}
use mathlib.Core.Bool.{true, false, and-false, and-eq-true_iff}
use lib.Dec.{leb}
use borrow.Author.Tests.{le-leb, lt-leb, leb-true}
use Rattle.utf8.specs.Rfc3629.{Range}
use Rattle.utf8.specs.Utf8.{within}

module _ (r : Range) (b : ℕ) where
  pub below : b < r.0 → within r b ≡ false
  below h = rw (lt-leb r.0 b h)

  pub above : r.1 < b → within r b ≡ false
  above h = simp (lt-leb b r.1 h, and-false)

  pub inside : r.0 ≤ b → b ≤ r.1 → within r b ≡ true
  inside h k = rw (le-leb r.0 b h, le-leb b r.1 k)

  pub bounds : within r b ≡ true → (r.0 ≤ b) × (b ≤ r.1)
  bounds e =
      let w = (and-eq-true_iff (leb r.0 b) (leb b r.1)).0 e in
      (leb-true r.0 b w.0, leb-true b r.1 w.1)
