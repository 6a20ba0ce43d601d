-- `put` meets its contract: the unit, the decimal and its knots, one behind the other. Assumes nothing.
use Prim.Native.Nat.{ℕ, ◌+◌}
use native.Mathlib.Omega.{arith}
use mathlib.Core.Path.{refl, ap, ◌∙◌}
use mathlib.Core.List.{[], ◌∷◌}
use lib.ListN.{set}
use Rattle.decimal.specs.Answer.{a_short}
use Rattle.text.proofs.Stores.{three}
use Rattle.words.specs.Part.{bits32, dop_words}
use Rattle.words.proofs.vtg_words.SpeedWords.put.Goals as goal

pub returns : goal.returns
returns c =
    let a = c.args in
    let s = a.self in
    three a.out.now _ _ _ (s.unit ∷ []) (dop_words (a_short s.written)) (bits32 s.knots ∷ []) a.at (a.at + 1) (a.at + 5)
    (ap (λ (n : ℕ). set a.out.now a.at n) c.from.ensures) refl c.put.ensures (omega arith)
    (ap (λ (n : ℕ). set c.put.new.out (a.at + 5) n) (c.from-2.ensures ∙ c.bits_f32.ensures))
