-- No second answer of `decimal`. Assumes nothing.
use Rattle.std.specs.Prelude.{Option, Result}
use Rattle.std.proofs.Common.{◌≡◌, ℕ, ◌^◌, min, List}
use Rattle.std.specs.Float.{binary32, binary64}
use lib.Ieee.{Float}
use Rattle.text.specs.Answer.{Finds, held_as, seen}
use Rattle.text.specs.declared.Fault.{Fault}
use Rattle.decimal.specs.Bits.{bits_of}
use Rattle.decimal.specs.Places.{short_decimal, long_decimal}
use Rattle.decimal.specs.Answer.{a_short, a_long}
use Rattle.decimal.specs.declared.ShortDecimal.{ShortDecimal}
use Rattle.decimal.specs.declared.LongDecimal.{LongDecimal}
use Rattle.only.proofs.Laws.{same, TellsApart, held-as-apart, seen-apart, finds}

-- a struct has the fields of what it means
pub short-apart : TellsApart a_short
short-apart = record { one = λ e i. record { whole = (e i).whole; decimals = (e i).decimals; value = (e i).value } }

long-apart : TellsApart a_long
long-apart = record {
  one = λ e i.
      record {
        minus = (e i).minus;
        size = (e i).size;
        decimals = (e i).decimals;
        billionths = (e i).billionths;
        value = (e i).value;
      };
}

pub pow10 : (k : ℕ) {r q : ℕ} → r ≡ 10 ^ min k 9 → q ≡ 10 ^ min k 9 → r ≡ q
pow10 k = same

pub short-decimal : (s : List ℕ) (at : ℕ) {r q : Result (Option ShortDecimal × ℕ) Fault} → Finds s at short_decimal (seen (held_as a_short)) r → Finds s at short_decimal (seen (held_as a_short)) q → r ≡ q
short-decimal s at = finds (seen-apart (held-as-apart short-apart))

pub long-decimal : (s : List ℕ) (at : ℕ) {r q : Result (Option LongDecimal × ℕ) Fault} → Finds s at long_decimal (seen (held_as a_long)) r → Finds s at long_decimal (seen (held_as a_long)) q → r ≡ q
long-decimal s at = finds (seen-apart (held-as-apart long-apart))

pub bits-f32 : (x : Float) {r q : ℕ} → r ≡ bits_of binary32 0x7FC00000 x → q ≡ bits_of binary32 0x7FC00000 x → r ≡ q
bits-f32 x = same

pub bits-f64 : (x : Float) {r q : ℕ} → r ≡ bits_of binary64 0x7FF8000000000000 x → q ≡ bits_of binary64 0x7FF8000000000000 x → r ≡ q
bits-f64 x = same
