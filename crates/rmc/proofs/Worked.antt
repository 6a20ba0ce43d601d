-- Worked data of RMC, by computation: a variation, with its float by the bits, the lone variation letter, an unknown mode letter,
-- and Number before what follows. Assumes nothing.
use mathlib.Core.Path.{◌≡◌, refl}
use mathlib.Core.Option.{none, some}
use lib.IntN.{pos, neg_ℤ}
use lib.Count.{count_trailing_zeros}
use lib.Ieee.{binary32, round, neg, of_bits, of_fields, odd, units, size, span, climb}
use Rattle.text.specs.Bytes.{byte, bytes}
use Rattle.text.specs.Reader.{◌>>=◌, pure, opt, alt, or_miss, char, one_of, among, letter_of, Number}
use Rattle.text.specs.Number.{fixed}
use Rattle.text.specs.Value.{value, syntax, fault, is}
use Rattle.decimal.specs.Decimal.{decimal}
use Rattle.decimal.specs.Places.{short_decimal, long_decimal}
use Rattle.fields.specs.Time.{hms, no_sign, clock, timed}
use Rattle.fields.specs.Date.{date}
use Rattle.fields.specs.Position.{side, latitude, longitude, do_lat_lon, commas, lat_lon}
use Rattle.fields.specs.Variation.{do_variation, variation}
use Rattle.fields.specs.Place.{with_comma}
use Rattle.rmc.specs.Rmc.{Motion, if_comma, opt_letter, fix_part, motion, letters, ending, rmc}

abbrev nothing : Motion
nothing = record { speed = none; course = none; date = none }

-- a variation to the west is negative; the bits of the float nearest to -3.1
pub variation-west :
    value (rmc (bytes ",V,,,,,,,,003.1,W"))
    ≡ is
    (record {
      fix = record { time = none; status = byte "V"; position = none };
      motion = nothing;
      ending = record {
        variation = some (record { whole = neg_ℤ (pos 31); decimals = 1; value = of_bits binary32 0xC0466666 });
        letters = record { mode = none; status = none };
      };
    })
unfolding rmc fix_part motion letters ending with_comma if_comma opt_letter hms no_sign clock timed date side latitude longitude do_lat_lon commas lat_lon do_variation variation short_decimal long_decimal decimal fixed ◌>>=◌ pure opt alt or_miss char one_of among letter_of round of_bits of_fields odd units size span climb count_trailing_zeros neg
variation-west = refl

-- `,E,A`: the comma is eaten as an absent variation, and E is no comma, so that neither mode nor status is read
pub lone-letter :
    value (rmc (bytes ",A,,,,,,,,,E,A"))
    ≡ is
    (record {
      fix = record { time = none; status = byte "A"; position = none };
      motion = nothing;
      ending = record { variation = none; letters = record { mode = none; status = none } };
    })
unfolding rmc fix_part motion letters ending with_comma if_comma opt_letter hms no_sign clock timed date side latitude longitude do_lat_lon commas lat_lon do_variation variation short_decimal long_decimal decimal fixed ◌>>=◌ pure opt alt or_miss char one_of among letter_of
lone-letter = refl

-- an unknown mode letter is not eaten, so that no comma follows for the status
pub unknown-mode :
    value (rmc (bytes ",V,,,,,,,,,,X,A"))
    ≡ is
    (record {
      fix = record { time = none; status = byte "V"; position = none };
      motion = nothing;
      ending = record { variation = none; letters = record { mode = none; status = none } };
    })
unfolding rmc fix_part motion letters ending with_comma if_comma opt_letter hms no_sign clock timed date side latitude longitude do_lat_lon commas lat_lon do_variation variation short_decimal long_decimal decimal fixed ◌>>=◌ pure opt alt or_miss char one_of among letter_of
unknown-mode = refl

-- Number at the speed, before the date that is none
pub number-first : value (rmc (bytes ",A,,,,,x,,999999,,,")) ≡ fault Number
unfolding rmc fix_part motion letters ending with_comma if_comma opt_letter hms no_sign clock timed date side latitude longitude do_lat_lon commas lat_lon do_variation variation short_decimal long_decimal decimal fixed ◌>>=◌ pure opt alt or_miss char one_of among letter_of
number-first = refl

-- Syntax at the status, before the speed that is no decimal
pub syntax-first : value (rmc (bytes ",B,,,,,x,,,,,")) ≡ syntax
unfolding rmc fix_part motion letters ending with_comma if_comma opt_letter hms no_sign clock timed date side latitude longitude do_lat_lon commas lat_lon do_variation variation short_decimal long_decimal decimal fixed ◌>>=◌ pure opt alt or_miss char one_of among letter_of
syntax-first = refl
