-- 01: "A non-empty text that is not a plain decimal within limits is Number, exactly then .. Checks run left to right." The data of
-- a GGA sentence has six decimal places, and is answered Number exactly where one of them is reached and bad. Assumes nothing.
use mathlib.Core.List.{List, [], ◌∷◌, ◌++◌}
use Rattle.text.specs.Bytes.{byte}
use Rattle.text.specs.Reader.{Fault, Reader, ◌>>◌, char}
use Rattle.text.specs.Number.{two_bytes, three_bytes}
use Rattle.text.proofs.Faults.{Never, never-bind, never-pure, never-opt, never-number}
use Rattle.decimal.specs.Decimal.{short, long}
use Rattle.decimal.proofs.Number.{Place, place, here, NumberAt, behind, never, both, first, short-number}
use Rattle.fields.specs.Position.{latitude}
use Rattle.fields.specs.Place.{time_place, short_place}
use Rattle.fields.specs.Letter.{unit_place}
use Rattle.fields.proofs.Number.{time_places, position_places, time-number, position-number, never-with, with-comma, never-letter-place, never-unit, never-unit-place}
use Rattle.gga.specs.Gga.{fix_digits, satellites_max, satellites_place, fix_part, height, gga}

-- what is read before each place
abbrev pub before_seconds : Reader (Unit {0})
before_seconds = do
  two_bytes
  two_bytes
  here

abbrev pub before_latitude_minutes : Reader (Unit {0})
before_latitude_minutes = do
  time_place
  two_bytes
  here

abbrev pub before_longitude_minutes : Reader (Unit {0})
before_longitude_minutes = do
  time_place
  latitude
  char (byte ",")
  three_bytes
  here

abbrev pub before_hdop : Reader (Unit {0})
before_hdop = do
  fix_part
  here

abbrev pub before_altitude : Reader (Unit {0})
before_altitude = do
  fix_part
  short_place
  here

abbrev pub before_geoid : Reader (Unit {0})
before_geoid = do
  fix_part
  short_place
  short_place
  unit_place (byte "M")
  here

abbrev pub gga_places : List Place
gga_places =
    place long before_seconds
    ∷ place long before_latitude_minutes
    ∷ place long before_longitude_minutes
    ∷ place short before_hdop
    ∷ place short before_altitude
    ∷ place short before_geoid
    ∷ []

never-satellites : {f : Fault} → Never f satellites_place
never-satellites = never-with (never-opt (never-number satellites_max))

fix-number : NumberAt fix_part (time_places ++ behind time_place position_places)
unfolding fix_part
fix-number =
    both (with-comma time-number)
    (λ t. first (with-comma position-number)
    (λ p f. never-bind (never-letter-place fix_digits) (λ q. never-bind never-satellites (λ s. never-pure _))))

height-number : NumberAt height (place short here ∷ behind short_place (place short here ∷ behind short_place (behind (unit_place (byte "M")) (place short here ∷ []))))
unfolding height
height-number =
    both (with-comma short-number)
    (λ h. both (with-comma short-number)
    (λ a. both (never (λ f. never-unit-place (byte "M")))
    (λ u. first (with-comma short-number) (λ g f. never-bind (never-unit (byte "M")) (λ v. never-pure _)))))

pub gga-number : NumberAt gga gga_places
unfolding gga
gga-number = both fix-number (λ f. first height-number (λ h f. never-pure _))
