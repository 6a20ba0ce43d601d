-- The data of a GGA sentence: a fix, how good it is, and the height.
--
--     101500.25,5130.5,N,00006.0,W,1,08,0.9,545.4,M,46.9,M,,
--     |         |        |         | |  |   |       `- height of the geoid above the ellipsoid, in metres
--     |         |        |         | |  |   `- altitude above the geoid, in metres
--     |         |        |         | |  `- horizontal dilution of precision
--     |         |        |         | `- satellites in use
--     |         |        |         `- fix, a digit from 0, none, to 8
--     |         |        `- longitude: degrees, minutes, E or W
--     |         `- latitude: degrees, minutes, N or S
--     `- time of the fix, UTC: hour, minute, seconds
use Rattle.std.specs.Prelude.{ℕ, List}
use Rattle.std.proofs.Math.Option.{Option}
use Rattle.text.specs.Bytes.{byte, bytes}
use Rattle.text.specs.Reader.{Reader, pure, opt, ◌>>=◌, ◌>>◌}
use Rattle.text.specs.Number.{number}
use Rattle.decimal.specs.Places.{Short}
use Rattle.fields.specs.Time.{Time}
use Rattle.fields.specs.Position.{LatLon}
use Rattle.fields.specs.Place.{with_comma, time_place, position_place, short_place}
use Rattle.fields.specs.Letter.{letter_place, unit_letter, unit_place}

-- fix_type.rs
abbrev pub fix_digits : List ℕ
fix_digits = bytes "012345678"

-- a u32
abbrev pub satellites_max : ℕ
satellites_max = 4294967295

abbrev pub satellites_place : Reader (Option ℕ)
satellites_place = with_comma (opt (number satellites_max))

-- of these fields only the fix must stand there
pub record Fix : Type 0 where
  pub time : Option Time
  pub position : Option LatLon
  pub quality : ℕ
  pub satellites : Option ℕ

unfoldable pub fix_part : Reader Fix
fix_part = do
  time ← time_place
  position ← position_place
  quality ← letter_place fix_digits
  satellites ← satellites_place
  pure (record { time = time; position = position; quality = quality; satellites = satellites })

pub record Height : Type 0 where
  pub hdop : Option Short
  pub altitude : Option Short
  pub geoid : Option Short

unfoldable pub height : Reader Height
height = do
  hdop ← short_place
  altitude ← short_place
  unit_place (byte "M")
  geoid ← short_place
  unit_letter (byte "M")
  pure (record { hdop = hdop; altitude = altitude; geoid = geoid })

-- do_parse_gga, in two parts; the rest is ignored
pub record Gga : Type 0 where
  pub fix : Fix
  pub height : Height

unfoldable pub gga : Reader Gga
gga = do
  f ← fix_part
  h ← height
  pure (record { fix = f; height = h })
