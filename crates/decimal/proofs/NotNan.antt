-- A float equals itself exactly where it is no NaN, so that test finds what has no bits of its own. Assumes nothing.
use Prim.Native.Nat.{ℕ, ◌*◌}
use mathlib.Core.Path.{◌≡◌, refl, ap, sym, ◌∙◌}
use mathlib.Core.Bool.{Bool, true, false, cond, not, ◌&&◌, ◌||◌, beq}
use lib.Dec.{eqb}
use lib.Ieee.{Float, nan, inf, fin, Format, up, down, eq, is_nan, to_bits}
use borrow.Author.Tests.{eq-eqb}
use Rattle.decimal.specs.Bits.{bits_of}

same-sign : (s : Bool) → beq s s ≡ true
same-sign true = refl
same-sign false = refl

itself : (x : Float) → eq x x ≡ not (is_nan x)
unfolding eq is_nan
itself nan = refl
itself (inf s) = same-sign s
itself (fin s m e) =
    let n = m * up e * down e in
    ap (λ (t : Bool). t && (beq s s || eqb n 0)) (eq-eqb n n refl) ∙ ap (λ (t : Bool). t || eqb n 0) (same-sign s)

module _ (x : Float) where
  pub quiet-bits : (f : Format) (quiet : ℕ) → eq x x ≡ false → quiet ≡ bits_of f quiet x
  quiet-bits f quiet e = at (is_nan x) (sym (itself x) ∙ e)
    where
      at : (t : Bool) → not t ≡ false → quiet ≡ cond t quiet (to_bits f x)
      at true h = refl
      at false h = absurd (mathlib.Core.Bool.true≢false h)
