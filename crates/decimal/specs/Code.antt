-- For the code, not for a reader of the scope: a run of digits, where a place ends, and a place in the order in which it is read.
use Rattle.std.specs.Prelude.{ℕ, ◌+◌, List, [], ◌∷◌, Bool, true, false, cond, length, eqb, leb}
use Rattle.std.proofs.Math.Option.{Option, none, some}
use Rattle.text.specs.Bytes.{byte}
use Rattle.text.specs.Reader.{refuse, got, Reader, Number}
use Rattle.text.specs.Number.{leading_digits, after_digits, value_from}
use Rattle.decimal.specs.Decimal.{Limits, Decimal, negative, digits, place_of}

pub record Run : Type 0 where
  pub value : ℕ
  pub count : ℕ

-- the digits that a text begins with, going on from `value` and `count` digits, at most `most`
unfoldable pub run : ℕ → ℕ → ℕ → Reader Run
run most value count l =
    cond (leb (count + length (leading_digits l)) most)
    (got (record { value = value_from value (leading_digits l); count = count + length (leading_digits l) }) (after_digits l))
    (refuse Number)

-- a comma or the end
abbrev pub at_end : List ℕ → Bool
at_end [] = true
at_end (b ∷ l) = eqb b (byte ",")

-- a minus sign, if one stands there
unfoldable pub minus_sign : Reader Bool
minus_sign [] = got false []
minus_sign (b ∷ l) = cond (eqb b (byte "-")) (got true l) (got false (b ∷ l))

-- a place without a sign
unfoldable pub unsigned_place : Limits → Reader (Option Decimal)
unsigned_place lim l = place_of (digits lim) l

-- and with it: a sign alone is no decimal
unfoldable pub with_sign : Bool → Option Decimal → Reader (Option Decimal)
with_sign true none l = refuse Number
with_sign true (some d) l = got (some (negative d)) l
with_sign false o l = got o l
