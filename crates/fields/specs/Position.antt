-- Latitude and longitude: degrees, minutes of arc, and the letter of the hemisphere.
use Rattle.std.specs.Prelude.{ℕ, ◌*◌, Bool, cond, ℤ, pos, ◌+ℤ◌, eqb, Float}
use Rattle.std.proofs.Math.Option.{Option, none, some}
use Rattle.std.specs.Float.{binary64}
use Rattle.std.specs.Float.Ieee.{add, div, neg, of_int}
use Rattle.text.specs.Bytes.{byte}
use Rattle.text.specs.Reader.{Reader, ◌>>=◌, ◌>>◌, pure, char, one_of, alt, or_miss}
use Rattle.text.specs.Number.{two_bytes, three_bytes}
use Rattle.decimal.specs.Places.{Long, long_decimal, turned, signed}

-- a signed count of billionths of a minute, its letter, and the f64 in degrees
pub record Position : Type 0 where
  pub count : ℤ
  pub letter : ℕ
  pub degrees : Float

-- 60 minutes a degree, each of 1,000,000,000 billionths: minutes below zero count against the degrees
abbrev pub billionths_of : ℕ → Long → ℤ
billionths_of deg m = pos (deg * 60000000000) +ℤ signed m.billionths m.minus

-- as in do_parse_lat_lon: minutes divided by 60, added to the degrees, negated for S or W
abbrev pub degrees_of : ℕ → Float → Bool → Float
degrees_of deg m minus =
    let up = add binary64 (of_int binary64 (pos deg)) (div binary64 m (of_int binary64 (pos 60))) in cond minus (neg up) up

abbrev pub position_of : ℕ → Long → ℕ → Bool → Position
position_of deg m letter minus =
    record { count = turned (billionths_of deg m) minus; letter = letter; degrees = degrees_of deg m.value minus }

-- minutes, a comma and one of two letters, of which the second negates
unfoldable pub side : ℕ → ℕ → ℕ → Reader Position
side plus minus deg = do
  minutes ← long_decimal
  m ← or_miss minutes
  char (byte ",")
  letter ← one_of plus minus
  pure (position_of deg m letter (eqb letter minus))

unfoldable pub latitude : Reader Position
latitude = two_bytes >>= side (byte "N") (byte "S")

unfoldable pub longitude : Reader Position
longitude = three_bytes >>= side (byte "E") (byte "W")

pub record LatLon : Type 0 where
  pub lat : Position
  pub lon : Position

-- do_parse_lat_lon: all four parts
unfoldable pub do_lat_lon : Reader LatLon
do_lat_lon = do
  lat ← latitude
  char (byte ",")
  lon ← longitude
  pure (record { lat = lat; lon = lon })

-- tag(",,,")
unfoldable pub commas : Reader (Unit {0})
commas = do
  char (byte ",")
  char (byte ",")
  char (byte ",")

-- parse_lat_lon: exactly `,,,`, or all four parts
unfoldable pub lat_lon : Reader (Option LatLon)
lat_lon = alt (commas >>= λ _. pure none) (do_lat_lon >>= λ p. pure (some p))
