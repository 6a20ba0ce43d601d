-- Worked data of GSV, by computation: an absent last entry, an elevation of -5, and an entry without its last comma.
-- Assumes nothing.
use mathlib.Core.Path.{◌≡◌, refl}
use mathlib.Core.Option.{none, some}
use Rattle.text.specs.Bytes.{bytes}
use Rattle.text.specs.Reader.{◌>>=◌, pure, opt, char}
use Rattle.text.specs.Number.{number, number_from}
use Rattle.text.specs.Value.{value, syntax, is}
use Rattle.gsv.specs.Gsv.{gsv, entry, counted, cell, closing}

-- that entry and the ones after it are absent
pub minus-five :
    value (gsv (bytes "1,1,02,03,-5,111,00,04,15,270,00"))
    ≡ is (record { count = 1; index = 1; view = 2; first = none; second = none; third = none; fourth = none })
unfolding gsv entry counted cell closing number number_from ◌>>=◌ pure opt char
minus-five = refl

-- an absent entry, not one with the signal missing
pub no-last-comma :
    value (gsv (bytes "3,3,09,88,07,028"))
    ≡ is (record { count = 3; index = 3; view = 9; first = none; second = none; third = none; fourth = none })
unfolding gsv entry counted cell closing number number_from ◌>>=◌ pure opt char
no-last-comma = refl

-- with that comma the signal is missing
pub no-signal :
    value (gsv (bytes "3,3,09,88,07,028,"))
    ≡ is
    (record {
      count = 3;
      index = 3;
      view = 9;
      first = some (record { id = 88; elevation = some 7; azimuth = some 28; signal = none });
      second = none;
      third = none;
      fourth = none;
    })
unfolding gsv entry counted cell closing number number_from ◌>>=◌ pure opt char
no-signal = refl

pub too-large : value (gsv (bytes "65536,1,02,")) ≡ syntax
unfolding gsv entry counted cell closing number number_from ◌>>=◌ pure opt char
too-large = refl
