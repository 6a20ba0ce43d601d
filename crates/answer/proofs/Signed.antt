-- Lines with a sign at each kind of decimal place, and their neighbours that are none, each with its whole answer, floats by their bits,
-- by computation. Assumes nothing.
use Prim.Native.Nat.{ℕ}
use mathlib.Core.Path.{refl}
use mathlib.Core.List.{List, [], ◌∷◌}
use mathlib.Core.Option.{Option, none, some}
use lib.IntN.{ℤ, pos, neg_ℤ}
use lib.Count.{count_trailing_zeros}
use lib.Ieee.{binary32, binary64, round, add, sum, div, neg, of_int, of_bits, of_fields, odd, units, size, span, climb}
use Rattle.utf8.specs.Utf8.{follow, step, after, ascii}
use Rattle.text.specs.Bytes.{byte, bytes}
use Rattle.text.specs.Reader.{◌>>=◌, pure, opt, alt, or_miss, char, one_of, among, letter_of, until}
use Rattle.text.specs.Number.{number, number_from, fixed}
use Rattle.decimal.specs.Decimal.{decimal}
use Rattle.decimal.specs.Places.{Short, short_decimal, long_decimal}
use Rattle.fields.specs.Time.{hms, no_sign, clock, timed}
use Rattle.fields.specs.Date.{date}
use Rattle.fields.specs.Position.{Position, LatLon, side, latitude, longitude, do_lat_lon, commas, lat_lon}
use Rattle.fields.specs.Variation.{do_variation, variation}
use Rattle.fields.specs.Place.{with_comma}
use Rattle.frame.specs.Refused.{syntax_error, system_mismatch, bad_number}
use Rattle.frame.specs.Types.{types, alike, listed}
use Rattle.frame.specs.Checksum.{checksum_from}
use Rattle.frame.specs.Digits.{digit, hex}
use Rattle.frame.specs.Frame.{taken, known, sentence_type, checksum_field, sentence, sized, frame}
use Rattle.gsv.specs.Talker.{row_for as row_of}
use Rattle.gsv.specs.Gsv.{gsv, entry, counted, cell, closing}
use Rattle.text.specs.Many.{many, skip, take_while1, eof, all_consuming, one_of3}
use Rattle.gsa.specs.System.{gps, glonass}
use Rattle.gsa.specs.Gsa.{gsa, empty_tail, last_system, full_tail, prn_fields, item, dop, dops, after_comma as system_after_comma, opt_system}
use Rattle.rmc.specs.Rmc.{rmc, fix_part, motion, letters, ending, if_comma, opt_letter}
use Rattle.answer.specs.Sentence.{Answer, is_rmc, is_gsa, is_refused, formatter_of, dispatch, answer}
use Rattle.answer.proofs.Worked.{Holds}

abbrev short : ℤ → ℕ → ℕ → Short
short z k b = record { whole = z; decimals = k; value = of_bits binary32 b }

abbrev at : ℤ → ℕ → ℕ → Position
at z c b = record { count = z; letter = c; degrees = of_bits binary64 b }

-- an RMC line with no more than a position, a speed, a course and a variation
abbrev with : Option LatLon → Option Short → Option Short → Option Short → Answer
with p s c v =
    is_rmc
    (record {
      talker = bytes "GP";
      body = record {
        fix = record { time = none; status = byte "A"; position = p };
        motion = record { speed = s; course = c; date = none };
        ending = record { variation = v; letters = record { mode = none; status = none } };
      };
    })

abbrev pub rows : List (List ℕ × Answer)
rows =
    -- of minus zero the f32 alone tells; W turns it back
    (bytes "$GPRMC,,A,,,,,-0,-4.5,,,*39", with none (some (short (pos 0) 0 0x80000000)) (some (short (neg_ℤ (pos 45)) 1 0xC0900000)) none)
    ∷ (bytes "$GPRMC,,A,,,,,,,,-0,W*6C", with none none none (some (short (pos 0) 0 0)))
    -- a sign counts as no digit
    ∷ (bytes "$GPRMC,,A,,,,,-1234567,,,,*3B", with none (some (short (neg_ℤ (pos 1234567)) 0 0xC996B438)) none none)
    ∷ (bytes "$GPRMC,,A,,,,,-12345678,,,,*03", is_refused bad_number)
    -- minutes count against the degrees: below the equator under N, on it, and S or W negates what came out
    ∷ (
      bytes "$GPRMC,,A,00-30,N,001-60,W,,,,,*0B",
      with (some (record { lat = at (neg_ℤ (pos 30000000000)) (byte "N") 0xBFE0000000000000; lon = at (pos 0) (byte "W") 0x8000000000000000 })) none none none,
    )
    ∷ (
      bytes "$GPRMC,,A,00-0,N,000-6.0,W,,,,,*17",
      with (some (record { lat = at (pos 0) (byte "N") 0; lon = at (pos 6000000000) (byte "W") 0x3FB999999999999A })) none none none,
    )
    -- seconds have none: Syntax, behind Number
    ∷ (bytes "$GPRMC,0000-0,A,,,,,,,,,*3B", is_refused syntax_error)
    ∷ (bytes "$GPRMC,2561-99,A,,,,,,,,,*0B", is_refused syntax_error)
    ∷ (bytes "$GPRMC,0000-1e1,A,,,,,,,,,*6E", is_refused bad_number)
    -- no item of GSA, so the PDOP; and then the systems may differ
    ∷ (
      bytes "$GPGSA,A,1,-1,0,0*02",
      is_gsa
          (record {
            talker = bytes "GP";
            body = record {
              mode = byte "A";
              fix = byte "1";
              satellites = [];
              dops = some (record { pdop = short (neg_ℤ (pos 1)) 0 0xBF800000; hdop = short (pos 0) 0 0; vdop = short (pos 0) 0 0 });
              system = some gps;
            };
          }),
    )
    ∷ (bytes "$GPGSA,A,1,-1,0,0,2*1C", is_refused (system_mismatch gps glonass))
    -- no plain decimals
    ∷ (bytes "$GPRMC,,A,,,,,-,,,,*0B", is_refused bad_number)
    ∷ (bytes "$GPRMC,,A,,,,,--1,,,,*17", is_refused bad_number)
    ∷ (bytes "$GPRMC,,A,,,,,-.5,,,,*10", is_refused bad_number)
    ∷ (bytes "$GPRMC,,A,,,,,1-1,,,,*0B", is_refused bad_number)
    ∷ (bytes "$GPRMC,,A,,,,,+1,,,,*3C", is_refused bad_number)
    ∷ []

pub signed : Holds rows
unfolding answer dispatch formatter_of frame sized sentence sentence_type checksum_field taken known hex digit checksum_from types alike listed follow step after ascii until char one_of among letter_of ◌>>=◌ pure opt alt or_miss number number_from fixed decimal short_decimal long_decimal hms no_sign clock timed date side latitude longitude do_lat_lon commas lat_lon do_variation variation row_of gsv entry counted cell closing many skip take_while1 eof all_consuming one_of3 gsa empty_tail last_system full_tail prn_fields item dop dops system_after_comma opt_system rmc fix_part motion letters ending with_comma if_comma opt_letter round of_bits of_fields odd units size span climb count_trailing_zeros add sum div neg of_int
signed = (refl, (refl, (refl, (refl, (refl, (refl, (refl, (refl, (refl, (refl, (refl, (refl, (refl, (refl, (refl, (refl, tt))))))))))))))))
