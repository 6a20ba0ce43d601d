-- The data of a GLL sentence: a position and its time.
--
--     5130.5,N,00006.0,W,101500.25,A,A
--     |        |         |         | `- mode, from NMEA 2.3 on
--     |        |         |         `- status: A valid, V not valid
--     |        |         `- time of the position, UTC: hour, minute, seconds
--     |        `- longitude: degrees, minutes, E or W
--     `- latitude: degrees, minutes, N or S
use Rattle.std.specs.Prelude.{ℕ, List, [], ◌∷◌}
use Rattle.std.proofs.Math.Option.{Option, none, some}
use Rattle.text.specs.Bytes.{bytes}
use Rattle.text.specs.Reader.{Reader, got, pure, letter_of, ◌>>=◌}
use Rattle.fields.specs.Time.{Time}
use Rattle.fields.specs.Position.{LatLon}
use Rattle.fields.specs.Place.{time_place, position_place}
use Rattle.fields.specs.Letter.{mode_letters, letter_place}

abbrev pub status_letters : List ℕ
status_letters = bytes "AV"

-- opt(anychar) and parse_faa_mode: no mode where the data ends, and else a mode's letter must stand there
unfoldable pub mode : Reader (Option ℕ)
mode [] = got none []
mode (b ∷ l) = (letter_of mode_letters >>= λ m. pure (some m)) (b ∷ l)

-- each field but the mode has a comma after it; position, time and mode may be absent
pub record Gll : Type 0 where
  pub position : Option LatLon
  pub time : Option Time
  pub status : ℕ
  pub mode : Option ℕ

-- do_parse_gll; the rest is ignored
unfoldable pub gll : Reader Gll
gll = do
  position ← position_place
  time ← time_place
  status ← letter_place status_letters
  m ← mode
  pure (record { position = position; time = time; status = status; mode = m })
