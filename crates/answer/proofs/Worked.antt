-- The sentences that 01 marks P, and those of requests that have landed, as rows of one statement: what each is answered, in whole, by computation. Assumes nothing.
use Prim.Native.Nat.{ℕ}
use mathlib.Core.Path.{◌≡◌, refl}
use mathlib.Core.List.{List, [], ◌∷◌}
use mathlib.Core.Option.{none, some}
use lib.ListN.{replicate}
use lib.IntN.{pos, neg_ℤ}
use lib.Count.{count_trailing_zeros}
use lib.Ieee.{binary32, binary64, round, add, sum, div, neg, of_int, of_bits, of_fields, odd, units, size, span, climb}
use Rattle.utf8.specs.Utf8.{follow, step, after, ascii}
use Rattle.text.specs.Bytes.{byte, bytes}
use Rattle.text.specs.Reader.{◌>>=◌, pure, opt, alt, or_miss, char, one_of, among, letter_of, until}
use Rattle.text.specs.Number.{number, number_from, fixed}
use Rattle.decimal.specs.Decimal.{decimal}
use Rattle.decimal.specs.Places.{Short, short_decimal, long_decimal}
use Rattle.fields.specs.Time.{hms, no_sign, clock, timed}
use Rattle.fields.specs.Date.{date}
use Rattle.fields.specs.Position.{LatLon, side, latitude, longitude, do_lat_lon, commas, lat_lon}
use Rattle.fields.specs.Variation.{do_variation, variation}
use Rattle.fields.specs.Place.{with_comma}
use Rattle.fields.specs.Letter.{unit_letter, unit_place}
use Rattle.frame.specs.Refused.{bad_utf8, not_ascii, too_long, syntax_error, bad_checksum, bad_number}
use Rattle.frame.specs.Types.{types, alike, listed}
use Rattle.frame.specs.Checksum.{checksum_from}
use Rattle.frame.specs.Digits.{digit, hex}
use Rattle.frame.specs.Frame.{taken, known, sentence_type, checksum_field, sentence, sized, frame}
use Rattle.gsv.specs.Talker.{gp, row_for as row_of}
use Rattle.gsv.specs.Gsv.{Satellite, gsv, entry, counted, cell, closing}
use Rattle.text.specs.Many.{many, skip, take_while1, eof, all_consuming, one_of3}
use Rattle.gsa.specs.Gsa.{gsa, empty_tail, last_system, full_tail, prn_fields, item, dop, dops, after_comma as system_after_comma, opt_system}
use Rattle.rmc.specs.Rmc.{rmc, fix_part, motion, letters, ending, if_comma, opt_letter}
use Rattle.gga.specs.Gga.{gga, fix_part as gga_fix, height}
use Rattle.gll.specs.Gll.{gll, mode}
use Rattle.vtg.specs.Vtg.{Vtg, vtg, courses, speed}
use Rattle.answer.specs.Sentence.{Answer, is_rmc, is_gsa, is_gsv, is_gga, is_gll, is_vtg, is_refused, formatter_of, dispatch, answer}

-- a satellite with all that an entry may hold
abbrev sat : ℕ → ℕ → ℕ → ℕ → Satellite
sat i e a s = record { id = i; elevation = some e; azimuth = some a; signal = some s }

-- a short decimal of so many digits after the point
abbrev short : ℕ → ℕ → ℕ → Short
short n k b = record { whole = pos n; decimals = k; value = of_bits binary32 b }

-- the place of 01's RMC sentence
abbrev london : LatLon
london =
    record {
      lat = record { count = pos 3090500000000; letter = byte "N"; degrees = of_bits binary64 0x4049C11111111111 };
      lon = record { count = neg_ℤ (pos 6000000000); letter = byte "W"; degrees = of_bits binary64 0xBFB999999999999A };
    }

abbrev of_vtg : Vtg → Answer
of_vtg d = is_vtg (record { talker = bytes "GP"; body = d })

abbrev Row : Type 0
Row = List ℕ × Answer

abbrev pub Holds : List Row → Type 0
Holds [] = Unit {0}
Holds (r ∷ rs) = (answer r.0 ≡ r.1) × Holds rs

abbrev pub rows : List Row
rows = (
  bytes "$GPGSV,3,1,11,03,03,111,00,04,15,270,00,06,01,010,00,13,06,292,00*74",
  is_gsv
      (record {
        talker = gp;
        body = record {
          count = 3;
          index = 1;
          view = 11;
          first = some (sat 3 3 111 0);
          second = some (sat 4 15 270 0);
          third = some (sat 6 1 10 0);
          fourth = some (sat 13 6 292 0);
        };
      }),
)
    ∷ (
      bytes "$GPGSV,3,3,11,22,42,067,42,24,14,311,43,27,05,244,00,,,,*4D",
      is_gsv
          (record {
            talker = gp;
            body = record {
              count = 3;
              index = 3;
              view = 11;
              first = some (sat 22 42 67 42);
              second = some (sat 24 14 311 43);
              third = some (sat 27 5 244 0);
              fourth = none;
            };
          }),
    )
    ∷ (
      bytes "$GPGSA,A,3,,,,,,16,18,,22,24,,,3.6,2.1,2.2*3C",
      is_gsa
          (record {
            talker = bytes "GP";
            body = record {
              mode = byte "A";
              fix = byte "3";
              satellites = 16 ∷ 18 ∷ 22 ∷ 24 ∷ [];
              dops = some (record { pdop = short 36 1 0x40666666; hdop = short 21 1 0x40066666; vdop = short 22 1 0x400CCCCD });
              system = some 1;
            };
          }),
    )
    ∷ (
      bytes "$GPGSA,A,1,,,,*32",
      is_gsa (record { talker = bytes "GP"; body = record { mode = byte "A"; fix = byte "1"; satellites = []; dops = none; system = some 1 } }),
    )
    ∷ (bytes "$GPGSA,A,1,,,,*33", is_refused (bad_checksum 50 51))
    ∷ (
      bytes "$GNRMC,101500.25,A,5130.5,N,00006.0,W,4.5,270.0,290224,,,A*5F",
      is_rmc
          (record {
            talker = bytes "GN";
            body = record {
              fix = record {
                time = some (record { hour = 10; minute = 15; second = 0; nanosecond = 250000000 });
                status = byte "A";
                position = some london;
              };
              motion = record {
                speed = some (short 45 1 0x40900000);
                course = some (short 2700 1 0x43870000);
                date = some (record { year = 2024; month = 2; day = 29 });
              };
              ending = record { variation = none; letters = record { mode = some (byte "A"); status = none } };
            };
          }),
    )
    ∷ ([], is_refused syntax_error)
    ∷ (replicate 102 (byte "x"), is_refused syntax_error)
    ∷ (replicate 103 (byte "x"), is_refused (too_long 103))
    ∷ (0xC3 ∷ 0xA9 ∷ [], is_refused not_ascii)
    ∷ (0xC3 ∷ 0x28 ∷ [], is_refused bad_utf8)
    ∷ (0xED ∷ 0xA0 ∷ 0x80 ∷ [], is_refused bad_utf8)
    ∷ (
      bytes "$GPGGA,123519,4807.038,N,01131.324,E,1,08,0.9,545.4,M,46.9,M, , *42",
      is_gga
          (record {
            talker = bytes "GP";
            body = record {
              fix = record {
                time = some (record { hour = 12; minute = 35; second = 19; nanosecond = 0 });
                position = some
                    (record {
                      lat = record { count = pos 2887038000000; letter = byte "N"; degrees = of_bits binary64 0x40480F03AFB7E910 };
                      lon = record { count = pos 691324000000; letter = byte "E"; degrees = of_bits binary64 0x40270B4C52775484 };
                    });
                quality = byte "1";
                satellites = some 8;
              };
              height = record {
                hdop = some (short 9 1 0x3F666666);
                altitude = some (short 5454 1 0x4408599A);
                geoid = some (short 469 1 0x423B999A);
              };
            };
          }),
    )
    -- the comma after the geoid must stand
    ∷ (bytes "$GPGGA,,,,,,0,,,,,*4A", is_refused syntax_error)
    ∷ (
      bytes "$GPGLL,5130.5,N,00006.0,W,101500.25,A,A*7D",
      is_gll
          (record {
            talker = bytes "GP";
            body = record {
              position = some london;
              time = some (record { hour = 10; minute = 15; second = 0; nanosecond = 250000000 });
              status = byte "A";
              mode = some (byte "A");
            };
          }),
    )
    -- a mode, if there is one more byte
    ∷ (
      bytes "$GPGLL,,,,,,A,AB*3E",
      is_gll (record { talker = bytes "GP"; body = record { position = none; time = none; status = byte "A"; mode = some (byte "A") } }),
    )
    ∷ (bytes "$GPGLL,,,,,,A,,*11", is_refused syntax_error)
    ∷ (
      bytes "$GPVTG,360.0,T,348.7,M,000.0,N,000.0,K*43",
      of_vtg
          (record {
            course = some (short 3600 1 0x43B40000);
            speed = some (record { written = short 0 1 0; unit = byte "N"; knots = of_bits binary32 0 });
          }),
    )
    ∷ (
      bytes "$GPVTG,054.7,T,034.4,M,005.5,N,010.2,K*48",
      of_vtg
          (record {
            course = some (short 547 1 0x425ACCCD);
            speed = some (record { written = short 55 1 0x40B00000; unit = byte "N"; knots = of_bits binary32 0x40B00000 });
          }),
    )
    ∷ (bytes "$GPVTG,t,T,,,s.ss,N,s.ss,K*77", is_refused bad_number)
    -- behind the N, or in its place, a speed is in kilometres an hour; the magnetic course must be a decimal, though it is not kept
    ∷ (
      bytes "$GPVTG,,,,,,N1,*01",
      of_vtg (record { course = none; speed = some (record { written = short 1 0 0x3F800000; unit = byte "K"; knots = of_bits binary32 0x3F0A3A9C }) }),
    )
    ∷ (bytes "$GPVTG,,,1e5,,,,*1F", is_refused bad_number)
    ∷ []

pub worked : Holds rows
unfolding answer dispatch formatter_of frame sized sentence sentence_type checksum_field taken known hex digit checksum_from types alike listed follow step after ascii until char one_of among letter_of ◌>>=◌ pure opt alt or_miss number number_from fixed decimal short_decimal long_decimal hms no_sign clock timed date side latitude longitude do_lat_lon commas lat_lon do_variation variation row_of gsv entry counted cell closing many skip take_while1 eof all_consuming one_of3 gsa empty_tail last_system full_tail prn_fields item dop dops system_after_comma opt_system rmc fix_part motion letters ending with_comma if_comma opt_letter unit_letter unit_place gga gga_fix height gll mode vtg courses speed round of_bits of_fields odd units size span climb count_trailing_zeros add sum div neg of_int
worked = (refl, (refl, (refl, (refl, (refl, (refl, (refl, (refl, (refl, (refl, (refl, (refl, (refl, (refl, (refl, (refl, (refl, (refl, (refl, (refl, (refl, (refl, tt))))))))))))))))))))))
