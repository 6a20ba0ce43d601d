-- The magnetic variation.
use Rattle.std.specs.Prelude.{Bool, cond, neg_ℤ, eqb}
use Rattle.std.proofs.Math.Option.{Option, none, some}
use Rattle.std.specs.Float.Ieee.{neg}
use Rattle.text.specs.Bytes.{byte}
use Rattle.text.specs.Reader.{Reader, ◌>>=◌, ◌>>◌, pure, char, one_of, alt, or_miss}
use Rattle.decimal.specs.Places.{Short, short_decimal}

-- W negates the whole number and the f32, so zero W is minus zero
abbrev pub variation_of : Short → Bool → Short
variation_of d west =
    cond west (record { whole = neg_ℤ d.whole; decimals = d.decimals; value = neg d.value }) d

-- do_parse_magnetic_variation: a short decimal, a comma and E or W
unfoldable pub do_variation : Reader Short
do_variation = do
  d ← short_decimal
  v ← or_miss d
  char (byte ",")
  letter ← one_of (byte "E") (byte "W")
  pure (variation_of v (eqb letter (byte "W")))

-- parse_magnetic_variation: a comma at once means absent, and only that comma is eaten
unfoldable pub variation : Reader (Option Short)
variation = alt (char (byte ",") >>= λ _. pure none) (do_variation >>= λ v. pure (some v))
