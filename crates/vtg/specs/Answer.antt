-- What each answer of the code says.
use Rattle.std.specs.Prelude.{Option}
use Rattle.std.proofs.Math.Option.{Option as Maybe}
use Rattle.text.specs.Answer.{held_as}
use Rattle.decimal.specs.Answer.{a_short}
use Rattle.fields.specs.Answer.{short_held}
use Rattle.vtg.specs.Vtg.{Speed as SpeedOf, Vtg}
use Rattle.vtg.specs.declared.Speed.{Speed}
use Rattle.vtg.specs.declared.VtgData.{VtgData}

abbrev pub a_speed : Speed → SpeedOf
a_speed s = record { written = a_short s.written; unit = s.unit; knots = s.knots }

abbrev pub speed_held : Option Speed → Maybe SpeedOf
speed_held s = held_as a_speed s

abbrev pub vtg_data : VtgData → Vtg
vtg_data d = record { course = short_held d.course; speed = speed_held d.speed }
