-- Lines that are answered 9, one at each kind of place, and their neighbours that are not, by computation; and of the first, which
-- place is reached. Assumes nothing.
use Prim.Native.Nat.{ℕ}
use mathlib.Core.Path.{refl}
use mathlib.Core.List.{List, [], ◌∷◌}
use mathlib.Core.Logic.{inl, inr}
use mathlib.Core.Option.{none, some}
use Rattle.utf8.specs.Utf8.{follow, step, after, ascii}
use Rattle.text.specs.Bytes.{byte, bytes}
use Rattle.text.specs.Reader.{◌>>=◌, pure, opt, alt, or_miss, char, one_of, among, letter_of, until}
use Rattle.text.specs.Number.{number, number_from, fixed}
use Rattle.text.specs.Many.{many, skip, take_while1, eof, all_consuming, one_of3}
use Rattle.decimal.specs.Decimal.{short, decimal}
use Rattle.decimal.specs.Places.{short_decimal, long_decimal}
use Rattle.decimal.proofs.Exactly.{number-only}
use Rattle.decimal.proofs.Number.{here}
use Rattle.fields.specs.Time.{hms, no_sign, clock, timed}
use Rattle.fields.specs.Date.{date}
use Rattle.fields.specs.Position.{side, latitude, longitude, do_lat_lon, commas, lat_lon}
use Rattle.fields.specs.Variation.{do_variation, variation}
use Rattle.fields.specs.Place.{with_comma}
use Rattle.frame.specs.Refused.{syntax_error, system_mismatch, bad_number}
use Rattle.frame.specs.Types.{types, alike, listed}
use Rattle.frame.specs.Checksum.{checksum_from}
use Rattle.frame.specs.Digits.{digit, hex}
use Rattle.frame.specs.Frame.{taken, known, sentence_type, checksum_field, sentence, sized, frame}
use Rattle.gsv.specs.Talker.{row_for as row_of}
use Rattle.gsv.specs.Gsv.{gsv, entry, counted, cell, closing}
use Rattle.gsa.specs.System.{gps, galileo}
use Rattle.gsa.specs.Gsa.{gsa, empty_tail, last_system, full_tail, prn_fields, item, dop, dops, after_comma as system_after_comma, opt_system}
use Rattle.rmc.specs.Rmc.{rmc, fix_part, motion, letters, ending, if_comma, opt_letter}
use Rattle.answer.specs.Sentence.{Answer, is_gsa, is_refused, formatter_of, dispatch, answer}
use Rattle.answer.proofs.Worked.{Holds}
use Rattle.answer.proofs.Number.{Nine}

abbrev pub rows : List (List ℕ × Answer)
rows =
    -- at the speed: no exponent, and no more than 7 digits
    (bytes "$GPRMC,,A,,,,,1e5,,,,*47", is_refused bad_number)
    ∷ (bytes "$GPRMC,,A,,,,,12345678,,,,*2E", is_refused bad_number)
    -- Syntax at the status, left of it
    ∷ (bytes "$GPRMC,,B,,,,,1e5,,,,*44", is_refused syntax_error)
    -- at the seconds, before the hour's range, which is Syntax
    ∷ (bytes "$GPRMC,256100x,A,,,,,,,,,,*72", is_refused bad_number)
    ∷ (bytes "$GPRMC,256100,A,,,,,,,,,,*0A", is_refused syntax_error)
    -- at the minutes of longitude
    ∷ (bytes "$GPRMC,101500.25,A,5130.5,N,00006.x,W,4.5,270.0,290224,,,A*09", is_refused bad_number)
    -- at the variation: no sign
    ∷ (bytes "$GPRMC,,A,,,,,,,,+3.2,E*67", is_refused bad_number)
    -- at VDOP, before the systems that differ
    ∷ (bytes "$GPGSA,A,3,16,3.6,2.1,x,3*56", is_refused bad_number)
    ∷ (bytes "$GPGSA,A,3,16,3.6,2.1,2.2,3*00", is_refused (system_mismatch gps galileo))
    -- more than 7 digits, but the system of an empty tail
    ∷ (
      bytes "$GPGSA,A,1,,,000000000001*1F",
      is_gsa (record { talker = bytes "GP"; body = record { mode = byte "A"; fix = byte "1"; satellites = []; dops = none; system = some gps } }),
    )
    -- no decimal place
    ∷ (bytes "$GPGSV,1,1,1e5,*34", is_refused syntax_error)
    ∷ []

pub worked : Holds rows
unfolding answer dispatch formatter_of frame sized sentence sentence_type checksum_field taken known hex digit checksum_from types alike listed follow step after ascii until char one_of among letter_of ◌>>=◌ pure opt alt or_miss number number_from fixed decimal short_decimal long_decimal hms no_sign clock timed date side latitude longitude do_lat_lon commas lat_lon do_variation variation row_of gsv entry counted cell closing many skip take_while1 eof all_consuming one_of3 gsa empty_tail last_system full_tail prn_fields item dop dops system_after_comma opt_system rmc fix_part motion letters ending with_comma if_comma opt_letter
worked = (refl, (refl, (refl, (refl, (refl, (refl, (refl, (refl, (refl, (refl, (refl, tt)))))))))))

-- the first row's bad place is the fourth of RMC, its speed
pub at-speed : Nine (bytes "$GPRMC,,A,,,,,1e5,,,,*47")
unfolding here formatter_of frame sized sentence sentence_type checksum_field taken known hex digit checksum_from types alike listed follow step after ascii until char one_of among letter_of ◌>>=◌ pure opt alt or_miss fixed decimal hms side latitude do_lat_lon commas lat_lon fix_part with_comma
at-speed =
    record {
      parts = record { talker = bytes "GP"; kind = bytes "RMC"; checksum = 0x47; from = 7; to = 21; text = bytes ",A,,,,,1e5,,,," };
      framed = refl;
      bad = inr (inr (inr (inl (record { rest = bytes "1e5,,,,"; reached = refl; no-decimal = number-only short (bytes "1e5,,,,") refl }))));
    }
