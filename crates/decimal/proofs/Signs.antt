-- A signed number as the machine casts it: one that is not below zero fits without its sign, and one of 32 bits fits in 64. Assumes nothing.
use Prim.Native.Nat.{◌^◌, ◌<◌}
use native.Mathlib.Omega.{arith}
use mathlib.Core.Path.{◌≡◌, sym, subst}
use mathlib.Core.Bool.{false, true≢false}
use lib.Dec.{T}
use lib.IntN.{ℤ, pos, negsuc, nat_abs}
use lib.Signed.{mag, lt_z, non_neg}
use mir.Syntax.{w32, w64}
use mir.Val.{Fits, SFits, to_z, of_z}
use mir.Facts.{to_z-of_z, sfits_widen}

pub unsigned : (z : ℤ) → mag z < 2 ^ 63 → lt_z z (pos 0) ≡ false → T (non_neg z) × Fits w64 (nat_abs z)
unsigned (pos n) l h = (tt, record { fits = omega arith })
unsigned (negsuc n) l h = absurd (true≢false h)

pub wider : (z : ℤ) → SFits w32 z → SFits w64 (to_z w32 (of_z w32 z))
wider z f = subst (λ (u : ℤ). SFits w64 u) (sym (to_z-of_z f)) (sfits_widen {w = w32} {w' = w64} tt f)
