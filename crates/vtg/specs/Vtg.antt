-- The data of a VTG sentence: course and speed over ground.
--
--     054.7,T,034.4,M,005.5,N,010.2,K
--     |       |       |     | `- speed in kilometres an hour, which is not read here
--     |       |       |     `- N, and behind it, before the comma, a speed in kilometres an hour, or such a speed in the place of the N
--     |       |       `- speed in knots
--     |       `- course in degrees from magnetic north, which is not kept
--     `- course in degrees from true north
use Rattle.std.specs.Prelude.{ℕ, false, Float}
use Rattle.std.proofs.Math.Option.{Option, none, some}
use Rattle.std.specs.Float.{binary32}
use Rattle.std.specs.Float.Ieee.{round, div}
use Rattle.text.specs.Bytes.{byte}
use Rattle.text.specs.Reader.{Reader, pure, ◌>>=◌, ◌>>◌}
use Rattle.decimal.specs.Places.{Short}
use Rattle.fields.specs.Place.{short_place}
use Rattle.fields.specs.Letter.{unit_letter, unit_place}

-- both courses; the true one is kept
unfoldable pub courses : Reader (Option Short)
courses = do
  course ← short_place
  unit_place (byte "T")
  short_place
  unit_place (byte "M")
  pure course

-- a speed as it is written, the letter of its unit, and the f32 in knots
pub record Speed : Type 0 where
  pub written : Short
  pub unit : ℕ
  pub knots : Float

-- a knot is 1.852 kilometres an hour: the f32 nearest to that
abbrev pub knot : Float
knot = round binary32 false 1852 1000

-- val / 1.852
abbrev pub knots_of : Float → Float
knots_of kmh = div binary32 kmh knot

abbrev pub in_knots : Short → Speed
in_knots d = record { written = d; unit = byte "N"; knots = d.value }

abbrev pub in_kmh : Short → Speed
in_kmh d = record { written = d; unit = byte "K"; knots = knots_of d.value }

-- knots come first
abbrev pub speed_of : Option Short → Option Short → Option Speed
speed_of (some d) kmh = some (in_knots d)
speed_of none (some d) = some (in_kmh d)
speed_of none none = none

unfoldable pub speed : Reader (Option Speed)
speed = do
  knots ← short_place
  unit_letter (byte "N")
  kmh ← short_place
  unit_letter (byte "K")
  pure (speed_of knots kmh)

-- do_parse_vtg, in two parts; the rest is ignored
pub record Vtg : Type 0 where
  pub course : Option Short
  pub speed : Option Speed

unfoldable pub vtg : Reader Vtg
vtg = do
  c ← courses
  s ← speed
  pure (record { course = c; speed = s })
