-- What each answer of the code says.
use Rattle.fields.specs.Answer.{time_held, date_held, position_held, short_held, letter_held}
use Rattle.rmc.specs.Rmc.{Fix as FixOf, Motion as MotionOf, Letters as LettersOf, Ending as EndingOf, Rmc}
use Rattle.rmc.specs.declared.Fix.{Fix}
use Rattle.rmc.specs.declared.Motion.{Motion}
use Rattle.rmc.specs.declared.Letters.{Letters}
use Rattle.rmc.specs.declared.Ending.{Ending}
use Rattle.rmc.specs.declared.RmcData.{RmcData}

abbrev pub fix_of : Fix → FixOf
fix_of f = record { time = time_held f.time; status = f.status; position = position_held f.position }

abbrev pub motion_of : Motion → MotionOf
motion_of m = record { speed = short_held m.speed; course = short_held m.course; date = date_held m.date }

abbrev pub letters_of : Letters → LettersOf
letters_of l = record { mode = letter_held l.mode; status = letter_held l.status }

abbrev pub ending_of : Ending → EndingOf
ending_of e = record { variation = short_held e.variation; letters = letters_of e.letters }

abbrev pub rmc_data : RmcData → Rmc
rmc_data d = record { fix = fix_of d.fix; motion = motion_of d.motion; ending = ending_of d.ending }
