-- The checksum of 01, "Framing": the exclusive or of bytes.
use Rattle.std.specs.Prelude.{ℕ, List, [], ◌∷◌}
use Rattle.std.specs.Int.Bits.{bit_xor}

unfoldable pub checksum_from : ℕ → List ℕ → ℕ
checksum_from x [] = x
checksum_from x (b ∷ l) = checksum_from (bit_xor x b) l

abbrev pub checksum : List ℕ → ℕ
checksum = checksum_from 0
