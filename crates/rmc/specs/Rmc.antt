-- The data of an RMC sentence: the recommended minimum of a fix.
--
--     101500.25,A,5130.5,N,00006.0,W,4.5,270.0,290224,3.2,W,A,V
--     |         | |        |         |   |     |      |     | `- navigational status, from NMEA 4.1 on
--     |         | |        |         |   |     |      |     `- mode, from NMEA 2.3 on
--     |         | |        |         |   |     |      `- magnetic variation, E or W
--     |         | |        |         |   |     `- date: day, month, year
--     |         | |        |         |   `- course over ground, in degrees from true north
--     |         | |        |         `- speed over ground, in knots
--     |         | |        `- longitude: degrees, minutes, E or W
--     |         | `- latitude: degrees, minutes, N or S
--     |         `- status of the fix: A autonomous, D differential, V not valid
--     `- time of the fix, UTC: hour, minute, seconds
use Rattle.std.specs.Prelude.{ℕ, List}
use Rattle.std.proofs.Math.Option.{Option, none, some}
use Rattle.text.specs.Bytes.{byte, bytes}
use Rattle.text.specs.Reader.{Reader, pure, opt, char, letter_of, ◌>>=◌}
use Rattle.decimal.specs.Places.{Short}
use Rattle.fields.specs.Time.{Time}
use Rattle.fields.specs.Date.{Date}
use Rattle.fields.specs.Position.{LatLon}
use Rattle.fields.specs.Place.{time_place, date_place, position_place, short_place}
use Rattle.fields.specs.Letter.{mode_letters, letter_place}
use Rattle.fields.specs.Variation.{variation}

-- "Status A, D or V"
abbrev pub fix_letters : List ℕ
fix_letters = bytes "ADV"

-- "Again for the status, ADEMNSV"
abbrev pub status_letters : List ℕ
status_letters = bytes "ADEMNSV"

-- where a comma stood, a letter that may be absent; an unknown letter is not eaten
unfoldable pub if_comma : List ℕ → Option (Unit {0}) → Reader (Option ℕ)
if_comma letters none = pure none
if_comma letters (some u) = opt (letter_of letters)

-- "an optional comma; if there, an optional mode letter", and so the status
unfoldable pub opt_letter : List ℕ → Reader (Option ℕ)
opt_letter letters = do
  comma ← opt (char (byte ","))
  if_comma letters comma

-- each field up to the date has a comma after it; each but the first status may be absent
pub record Fix : Type 0 where
  pub time : Option Time
  pub status : ℕ
  pub position : Option LatLon

unfoldable pub fix_part : Reader Fix
fix_part = do
  time ← time_place
  status ← letter_place fix_letters
  position ← position_place
  pure (record { time = time; status = status; position = position })

pub record Motion : Type 0 where
  pub speed : Option Short
  pub course : Option Short
  pub date : Option Date

unfoldable pub motion : Reader Motion
motion = do
  speed ← short_place
  course ← short_place
  date ← date_place
  pure (record { speed = speed; course = course; date = date })

pub record Letters : Type 0 where
  pub mode : Option ℕ
  pub status : Option ℕ

unfoldable pub letters : Reader Letters
letters = do
  mode ← opt_letter mode_letters
  status ← opt_letter status_letters
  pure (record { mode = mode; status = status })

pub record Ending : Type 0 where
  pub variation : Option Short
  pub letters : Letters

unfoldable pub ending : Reader Ending
ending = do
  v ← variation
  ls ← letters
  pure (record { variation = v; letters = ls })

-- do_parse_rmc, in three parts; the rest is ignored
pub record Rmc : Type 0 where
  pub fix : Fix
  pub motion : Motion
  pub ending : Ending

unfoldable pub rmc : Reader Rmc
rmc = do
  f ← fix_part
  m ← motion
  e ← ending
  pure (record { fix = f; motion = m; ending = e })
