-- 01: "A non-empty text that is not a plain decimal within limits is Number, exactly then .. Checks run left to right." The data of
-- a GLL sentence has three decimal places, and is answered Number exactly where one of them is reached and bad. Assumes nothing.
use mathlib.Core.List.{List, [], ◌∷◌}
use mathlib.Core.Option.{none}
use Rattle.text.specs.Bytes.{byte}
use Rattle.text.specs.Reader.{Fault, Reader, ◌>>◌, char}
use Rattle.text.specs.Number.{two_bytes, three_bytes}
use Rattle.text.proofs.Faults.{Never, clear-got, never-bind, never-pure, never-letter_of}
use Rattle.decimal.specs.Decimal.{long}
use Rattle.decimal.proofs.Number.{Place, place, here, NumberAt, both, first}
use Rattle.fields.specs.Position.{latitude}
use Rattle.fields.specs.Place.{position_place}
use Rattle.fields.specs.Letter.{mode_letters}
use Rattle.fields.proofs.Number.{time-number, position-number, with-comma, never-letter-place}
use Rattle.gll.specs.Gll.{status_letters, mode, gll}

-- what is read before each place
abbrev pub before_latitude_minutes : Reader (Unit {0})
before_latitude_minutes = do
  two_bytes
  here

abbrev pub before_longitude_minutes : Reader (Unit {0})
before_longitude_minutes = do
  latitude
  char (byte ",")
  three_bytes
  here

abbrev pub before_seconds : Reader (Unit {0})
before_seconds = do
  position_place
  two_bytes
  two_bytes
  here

abbrev pub gll_places : List Place
gll_places = place long before_latitude_minutes ∷ place long before_longitude_minutes ∷ place long before_seconds ∷ []

never-mode : {f : Fault} → Never f mode
unfolding mode
never-mode [] = clear-got none []
never-mode (b ∷ l) = never-bind (never-letter_of mode_letters) (λ m. never-pure _) (b ∷ l)

pub gll-number : NumberAt gll gll_places
unfolding gll
gll-number =
    both (with-comma position-number)
    (λ p. first (with-comma time-number)
    (λ t f. never-bind (never-letter-place status_letters) (λ s. never-bind never-mode (λ m. never-pure _))))
