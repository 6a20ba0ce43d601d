-- The checksum of six bytes and a text behind them. Assumes nothing.
use Prim.Native.Nat.{ℕ}
use mathlib.Core.Path.{◌≡◌, sym, ◌∙◌, ap}
use mathlib.Core.List.{List, ◌∷◌}
use lib.ListN.{length}
use lib.Seq.{slice, take-length}
use lib.Bits.{bit_xor}
use Rattle.frame.specs.Checksum.{checksum_from, checksum}
use Rattle.frame.proofs.Xor.{from-then}

pub six-then : (a b c d e f : ℕ) (s : List ℕ) {x : ℕ} → x ≡ checksum (slice 0 (length s) s)
    → bit_xor (bit_xor (bit_xor (bit_xor (bit_xor (bit_xor a b) c) d) e) f) x ≡ checksum (a ∷ b ∷ c ∷ d ∷ e ∷ f ∷ s)
unfolding checksum_from
six-then a b c d e f s g =
    ap (bit_xor (bit_xor (bit_xor (bit_xor (bit_xor (bit_xor a b) c) d) e) f)) (g ∙ ap checksum (take-length s))
    ∙ sym (from-then (bit_xor (bit_xor (bit_xor (bit_xor (bit_xor a b) c) d) e) f) s)
