-- Worked data, by computing the definition; the floats by their bits, which no definition of ours computes. Assumes nothing.
use Prim.Native.Nat.{ℕ}
use Prim.Native.String.{String}
use mathlib.Core.Path.{◌≡◌, refl}
use mathlib.Core.List.{List, [], ◌∷◌}
use mathlib.Core.Option.{Option, none, some}
use lib.IntN.{pos}
use lib.Count.{count_trailing_zeros}
use lib.Ieee.{binary32, round, of_bits, of_fields, odd, units, size, span, climb}
use Rattle.text.specs.Bytes.{byte, bytes}
use Rattle.text.specs.Reader.{Number, ◌>>=◌, pure, opt, alt, or_miss, char, one_of}
use Rattle.text.specs.Number.{number, number_from}
use Rattle.decimal.specs.Decimal.{decimal}
use Rattle.decimal.specs.Places.{Short, short_decimal}
use Rattle.text.specs.Many.{many, skip, take_while1, eof, all_consuming, one_of3}
use Rattle.text.specs.Value.{Value, syntax, fault, is, value}
use Rattle.gsa.specs.System.{gps, beidou, galileo, named, settle, is, mismatch}
use Rattle.gsa.specs.Gsa.{Gsa, Dops, last_system, empty_tail, item, prn_fields, dop, dops, after_comma, opt_system, full_tail, gsa}

-- what data says
abbrev says : String → Value Gsa
says t = value (gsa (bytes t))

-- a number of tenths, and the bits of its float
abbrev tenths : ℕ → ℕ → Short
tenths n b = record { whole = pos n; decimals = 1; value = of_bits binary32 b }

-- the three dilutions 3.6, 2.1 and 2.2
abbrev dilutions : Option Dops
dilutions = some (record { pdop = tenths 36 0x40666666; hdop = tenths 21 0x40066666; vdop = tenths 22 0x400CCCCD })

-- a sentence of the mode A
abbrev automatic : ℕ → List ℕ → Option Dops → Option ℕ → Value Gsa
automatic fix xs ds sys = is (record { mode = byte "A"; fix = fix; satellites = xs; dops = ds; system = sys })

pub record Worked : Type 0 where
  pub four-satellites : says "A,3,,,,,,16,18,,22,24,,,3.6,2.1,2.2" ≡ automatic (byte "3") (16 ∷ 18 ∷ 22 ∷ 24 ∷ []) dilutions none
  pub no-satellites : says "A,1,,,," ≡ automatic (byte "1") [] none none
  pub a-system : says "A,1,,,,3" ≡ automatic (byte "1") [] none (some galileo)
  -- the items eat two of the three numbers
  pub whole-dops : says "A,3,16,18,3,2,1" ≡ syntax
  -- and where the third has its comma too, all three
  pub whole-dops-end : says "A,3,16,18,3,2,1," ≡ syntax
  -- the nineteenth item is dropped
  pub nineteenth : says "A,3,1,2,3,4,5,6,7,8,9,10,11,12,13,14,15,16,17,18,19,3.6,2.1,2.2" ≡ automatic (byte "3") (1 ∷ 2 ∷ 3 ∷ 4 ∷ 5 ∷ 6 ∷ 7 ∷ 8 ∷ 9 ∷ 10 ∷ 11 ∷ 12 ∷ 13 ∷ 14 ∷ 15 ∷ 16 ∷ 17 ∷ 18 ∷ []) dilutions none
  pub no-decimal : says "A,3,16,1e1,2.1,2.2" ≡ fault Number
  -- an absent one is no match
  pub no-dop : says "A,3,16,,2.1,,2.2" ≡ syntax
  pub unknown-system : says "A,3,16,3.6,2.1,2.2,9" ≡ automatic (byte "3") (16 ∷ []) dilutions none
  pub known-system : says "A,3,16,3.6,2.1,2.2,3" ≡ automatic (byte "3") (16 ∷ []) dilutions (some galileo)
  -- a system above 255 does not match and is left, with its comma
  pub large-system : says "A,3,16,3.6,2.1,2.2,256" ≡ automatic (byte "3") (16 ∷ []) dilutions none
  -- in the short form it leads to the long one, where it is a first dilution and no second follows
  pub large-last : says "A,1,,,,256" ≡ syntax
  pub no-mode : says "B,1,,,," ≡ syntax
  pub no-fix : says "A,4,,,," ≡ syntax
  -- the talker GP, and the tail of another system, of none and of its own
  pub differs : settle (named (byte "G") (byte "P")) (some galileo) ≡ mismatch gps galileo
  pub from-talker : settle (named (byte "G") (byte "P")) none ≡ is (some gps)
  pub agrees : settle (named (byte "G") (byte "P")) (some gps) ≡ is (some gps)
  -- GN names no system; BD and GB name one
  pub from-tail : settle (named (byte "G") (byte "N")) (some galileo) ≡ is (some galileo)
  pub neither : settle (named (byte "G") (byte "N")) none ≡ is none
  pub old-beidou : settle (named (byte "B") (byte "D")) none ≡ is (some beidou)
  pub new-beidou : settle (named (byte "G") (byte "B")) none ≡ is (some beidou)

pub worked : Worked
unfolding gsa empty_tail full_tail last_system prn_fields item many dops dop after_comma opt_system all_consuming take_while1 skip eof one_of3 one_of char opt alt or_miss number number_from short_decimal decimal ◌>>=◌ pure round of_bits of_fields odd units size span climb count_trailing_zeros
worked =
    record {
      four-satellites = refl;
      no-satellites = refl;
      a-system = refl;
      whole-dops = refl;
      whole-dops-end = refl;
      nineteenth = refl;
      no-decimal = refl;
      no-dop = refl;
      unknown-system = refl;
      known-system = refl;
      large-system = refl;
      large-last = refl;
      no-mode = refl;
      no-fix = refl;
      differs = refl;
      from-talker = refl;
      agrees = refl;
      from-tail = refl;
      neither = refl;
      old-beidou = refl;
      new-beidou = refl;
    }
