-- 01: "A non-empty text that is not a plain decimal within limits is Number, exactly then .. Checks run left to right." The data of
-- a VTG sentence has four decimal places, and is answered Number exactly where one of them is reached and bad: also at the magnetic
-- course, which is not kept, and in the field of the N, where no other text may stand. Assumes nothing.
use mathlib.Core.List.{List, [], ◌∷◌}
use Rattle.text.specs.Bytes.{byte}
use Rattle.text.specs.Reader.{Reader, ◌>>◌}
use Rattle.text.proofs.Faults.{never-bind, never-pure}
use Rattle.decimal.specs.Decimal.{short}
use Rattle.decimal.proofs.Number.{Place, place, here, NumberAt, behind, never, both, first, short-number}
use Rattle.fields.specs.Place.{short_place}
use Rattle.fields.specs.Letter.{unit_letter, unit_place}
use Rattle.fields.proofs.Number.{with-comma, never-unit, never-unit-place}
use Rattle.vtg.specs.Vtg.{courses, speed, vtg}

-- what is read before each place
abbrev pub before_magnetic : Reader (Unit {0})
before_magnetic = do
  short_place
  unit_place (byte "T")
  here

abbrev pub before_knots : Reader (Unit {0})
before_knots = do
  courses
  here

abbrev pub before_kmh : Reader (Unit {0})
before_kmh = do
  courses
  short_place
  unit_letter (byte "N")
  here

abbrev pub vtg_places : List Place
vtg_places = place short here ∷ place short before_magnetic ∷ place short before_knots ∷ place short before_kmh ∷ []

courses-number : NumberAt courses (place short here ∷ behind short_place (behind (unit_place (byte "T")) (place short here ∷ [])))
unfolding courses
courses-number =
    both (with-comma short-number)
    (λ c. both (never (λ f. never-unit-place (byte "T")))
    (λ t. first (with-comma short-number) (λ m f. never-bind (never-unit-place (byte "M")) (λ u. never-pure _))))

speed-number : NumberAt speed (place short here ∷ behind short_place (behind (unit_letter (byte "N")) (place short here ∷ [])))
unfolding speed
speed-number =
    both (with-comma short-number)
    (λ k. both (never (λ f. never-unit (byte "N")))
    (λ n. first (with-comma short-number) (λ d f. never-bind (never-unit (byte "K")) (λ u. never-pure _))))

pub vtg-number : NumberAt vtg vtg_places
unfolding vtg
vtg-number = both courses-number (λ c. first speed-number (λ s f. never-pure _))
