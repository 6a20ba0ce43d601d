-- What each answer of the code says.
use Rattle.std.specs.Prelude.{ℕ, Option}
use Rattle.std.proofs.Math.Option.{Option as Maybe}
use Rattle.text.specs.Answer.{held, held_as}
use Rattle.decimal.specs.Places.{Short}
use Rattle.decimal.specs.Answer.{a_short}
use Rattle.decimal.specs.declared.ShortDecimal.{ShortDecimal}
use Rattle.fields.specs.Time.{Time}
use Rattle.fields.specs.Date.{Date}
use Rattle.fields.specs.Position.{Position, LatLon}
use Rattle.fields.specs.declared.time.TimeOfDay.{TimeOfDay}
use Rattle.fields.specs.declared.date.Day.{Day}
use Rattle.fields.specs.declared.position.Coordinate.{Coordinate}
use Rattle.fields.specs.declared.position.Both.{Both}

abbrev pub time_of : TimeOfDay → Time
time_of t = record { hour = t.hour; minute = t.minute; second = t.second; nanosecond = t.nanosecond }

abbrev pub time_held : Option TimeOfDay → Maybe Time
time_held t = held_as time_of t

abbrev pub day_of : Day → Date
day_of d = record { year = d.year; month = d.month; day = d.day }

abbrev pub date_held : Option Day → Maybe Date
date_held d = held_as day_of d

abbrev pub coordinate : Coordinate → Position
coordinate c = record { count = c.count; letter = c.letter; degrees = c.degrees }

abbrev pub both : Both → LatLon
both b = record { lat = coordinate b.lat; lon = coordinate b.lon }

abbrev pub position_held : Option Both → Maybe LatLon
position_held b = held_as both b

abbrev pub short_held : Option ShortDecimal → Maybe Short
short_held d = held_as a_short d

abbrev pub letter_held : Option ℕ → Maybe ℕ
letter_held b = held b
