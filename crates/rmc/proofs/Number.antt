-- 01: "A non-empty text that is not a plain decimal within limits is Number, exactly then .. Checks run left to right." The data of
-- an RMC sentence has six decimal places, and is answered Number exactly where one of them is reached and bad: each place stands
-- behind what the parts before it read, and no other part ends in a fault. Assumes nothing.
use Prim.Native.Nat.{ℕ}
use mathlib.Core.List.{List, [], ◌∷◌, ◌++◌}
use mathlib.Core.Option.{Option, none, some}
use Rattle.text.specs.Bytes.{byte}
use Rattle.text.specs.Reader.{Fault, Reader, ◌>>◌, char}
use Rattle.text.specs.Number.{two_bytes, three_bytes}
use Rattle.text.proofs.Faults.{Never, never-bind, never-pure, never-opt, never-char, never-letter_of}
use Rattle.decimal.specs.Decimal.{short, long}
use Rattle.decimal.proofs.Number.{Place, place, here, NumberAt, behind, never, both, first, short-number}
use Rattle.fields.specs.Position.{latitude}
use Rattle.fields.proofs.Number.{time_places, position_places, variation_places, time-number, never-date, position-number, variation-number, never-with, with-comma, never-letter-place}
use Rattle.fields.specs.Place.{time_place, short_place}
use Rattle.fields.specs.Letter.{mode_letters, letter_place}
use Rattle.rmc.specs.Rmc.{fix_letters, status_letters, if_comma, opt_letter, fix_part, motion, letters, ending, rmc}

-- what is read before each place
abbrev pub before_seconds : Reader (Unit {0})
before_seconds = do
  two_bytes
  two_bytes
  here

abbrev pub before_latitude_minutes : Reader (Unit {0})
before_latitude_minutes = do
  time_place
  letter_place fix_letters
  two_bytes
  here

abbrev pub before_longitude_minutes : Reader (Unit {0})
before_longitude_minutes = do
  time_place
  letter_place fix_letters
  latitude
  char (byte ",")
  three_bytes
  here

abbrev pub before_speed : Reader (Unit {0})
before_speed = do
  fix_part
  here

abbrev pub before_course : Reader (Unit {0})
before_course = do
  fix_part
  short_place
  here

abbrev pub before_variation : Reader (Unit {0})
before_variation = do
  fix_part
  motion
  here

abbrev pub rmc_places : List Place
rmc_places =
    place long before_seconds
    ∷ place long before_latitude_minutes
    ∷ place long before_longitude_minutes
    ∷ place short before_speed
    ∷ place short before_course
    ∷ place short before_variation
    ∷ []

fix-number : NumberAt fix_part (time_places ++ behind time_place (behind (letter_place fix_letters) position_places))
unfolding fix_part
fix-number =
    both (with-comma time-number)
    (λ t. both (never (λ f. never-letter-place fix_letters)) (λ s. first (with-comma position-number) (λ p f. never-pure _)))

motion-number : NumberAt motion (place short here ∷ behind short_place (place short here ∷ []))
unfolding motion
motion-number =
    both (with-comma short-number)
    (λ s. first (with-comma short-number) (λ c f. never-bind (never-with never-date) (λ d. never-pure _)))

module _ {f : Fault} where
  never-letter : (ls : List ℕ) → Never f (opt_letter ls)
  unfolding opt_letter if_comma
  never-letter ls = never-bind (never-opt (never-char (byte ","))) if-comma
    where
      if-comma : (o : Option (Unit {0})) → Never f (if_comma ls o)
      if-comma none = never-pure none
      if-comma (some u) = never-opt (never-letter_of ls)

  never-letters : Never f letters
  unfolding letters
  never-letters = never-bind (never-letter mode_letters) (λ m. never-bind (never-letter status_letters) (λ s. never-pure _))

ending-number : NumberAt ending variation_places
unfolding ending
ending-number = first variation-number (λ v f. never-bind never-letters (λ ls. never-pure _))

pub rmc-number : NumberAt rmc rmc_places
unfolding rmc
rmc-number = both fix-number (λ f. both motion-number (λ m. first ending-number (λ e f. never-pure _)))
