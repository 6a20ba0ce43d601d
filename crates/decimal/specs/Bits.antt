-- The bits of a float, by IEEE 754's formats; a NaN has many, and `quiet` stands for them all.
use Rattle.std.specs.Prelude.{ℕ, cond, Float}
use Rattle.std.specs.Float.{Format}
use Rattle.std.specs.Float.Ieee.{is_nan, to_bits}

abbrev pub bits_of : Format → ℕ → Float → ℕ
bits_of f quiet x = cond (is_nan x) quiet (to_bits f x)
