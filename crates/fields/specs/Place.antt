-- A field that may be absent, with the comma after it: what most sentences are made of.
use Rattle.std.proofs.Math.Option.{Option}
use Rattle.text.specs.Bytes.{byte}
use Rattle.text.specs.Reader.{Reader, ◌>>=◌, ◌>>◌, pure, char}
use Rattle.decimal.specs.Places.{Short, short_decimal}
use Rattle.fields.specs.Time.{Time, opt_hms}
use Rattle.fields.specs.Date.{Date, opt_date}
use Rattle.fields.specs.Position.{LatLon, lat_lon}

unfoldable pub with_comma : {A : Type 0} → Reader A → Reader A
with_comma r = do
  a ← r
  char (byte ",")
  pure a

abbrev pub time_place : Reader (Option Time)
time_place = with_comma opt_hms

abbrev pub date_place : Reader (Option Date)
date_place = with_comma opt_date

abbrev pub position_place : Reader (Option LatLon)
position_place = with_comma lat_lon

abbrev pub short_place : Reader (Option Short)
short_place = with_comma short_decimal
