-- Greedy packing puts at most four entries into a piece, so some pieces have at most four times as many. Assumes nothing.
use Prim.Native.Nat.{ℕ, suc, ◌+◌, ◌-◌, ◌*◌, ◌≤◌}
use native.Mathlib.Omega.{arith}
use mathlib.Core.Path.{◌≡◌, refl}
use mathlib.Core.List.{List, [], ◌∷◌}
use mathlib.Core.Bool.{Bool, true, false, ◌&&◌, cond}
use lib.Dec.{ltb, leb}
use lib.ListN.{length}
use borrow.Author.Tests.{ltb-true}
use Rattle.pack.specs.Cut.{more, piece_count}

module _ {A : Type 0} (w : A → ℕ) (room : ℕ) where
  fill : (c u : ℕ) (es : List A) → c ≤ 4 → length es ≤ 4 - c + 4 * more w room c u es
  unfolding more
  fill c u [] h = omega arith
  fill c u (e ∷ es) h = by (ltb c 4) (leb (u + w e) room) refl (λ c' u' k. fill c' u' es k)
    where
      by : (a b : Bool) → ltb c 4 ≡ a → ((c' u' : ℕ) → c' ≤ 4 → length es ≤ 4 - c' + 4 * more w room c' u' es)
          → suc (length es) ≤ 4 - c + 4 * (cond (a && b) 0 1 + more w room (cond (a && b) (suc c) 1) (cond (a && b) (u + w e) (w e)) es)
      by true true q ih =
          let k : suc c ≤ 4 = ltb-true c 4 q in
          omega (arith, ih (suc c) (u + w e) k)
      by true false q ih = omega (arith, ih 1 (w e) (omega arith))
      by false b q ih = omega (arith, ih 1 (w e) (omega arith))

  pub four-each : (es : List A) → length es ≤ 4 * piece_count w room es
  four-each es = omega (arith, fill 4 0 es (omega arith))
