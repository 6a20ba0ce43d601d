-- Short and long decimals: the exact number, and the float nearest to it.
use Rattle.std.specs.Prelude.{ℕ, ◌*◌, ◌-◌, ◌^◌, Bool, cond, ℤ, pos, neg_ℤ, Float}
use Rattle.std.proofs.Math.Option.{Option, map}
use Rattle.std.specs.Float.{Format, binary32, binary64}
use Rattle.std.specs.Float.Ieee.{round}
use Rattle.text.specs.Reader.{Reader, pure, ◌>>=◌}
use Rattle.decimal.specs.Decimal.{Decimal, decimal, short, long}

-- `z`, negated where `minus` says so
abbrev pub turned : ℤ → Bool → ℤ
turned z minus = cond minus (neg_ℤ z) z

abbrev pub signed : ℕ → Bool → ℤ
signed n minus = turned (pos n) minus

-- the value of the format nearest to the decimal: its digits divided once by the power of ten. Minus zero is not zero
abbrev pub float_of : Format → Decimal → Float
float_of f d = round f d.minus d.size (10 ^ d.decimals)

-- a short decimal: its digits as a whole number, its count of decimals, and the f32
pub record Short : Type 0 where
  pub whole : ℤ
  pub decimals : ℕ
  pub value : Float

abbrev pub short_of : Decimal → Short
short_of d = record { whole = signed d.size d.minus; decimals = d.decimals; value = float_of binary32 d }

-- a long decimal: its sign, its digits, its count of decimals, the same in billionths, and the f64
pub record Long : Type 0 where
  pub minus : Bool
  pub size : ℕ
  pub decimals : ℕ
  pub billionths : ℕ
  pub value : Float

abbrev pub long_of : Decimal → Long
long_of d =
    record {
      minus = d.minus;
      size = d.size;
      decimals = d.decimals;
      billionths = d.size * 10 ^ (9 - d.decimals);
      value = float_of binary64 d;
    }

unfoldable pub short_decimal : Reader (Option Short)
short_decimal = do
  d ← decimal short
  pure (map short_of d)

unfoldable pub long_decimal : Reader (Option Long)
long_decimal = do
  d ← decimal long
  pure (map long_of d)
