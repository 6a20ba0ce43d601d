-- The time of day: hour, minute and seconds. 01: "Number before ranges; seconds with a sign, minus zero too, are Syntax; hour
-- below 24, minute below 60, seconds below 60, else Syntax. Then 11."
use Rattle.std.specs.Prelude.{ℕ, ◌*◌, ◌-◌, ◌/◌, ◌%◌, ◌^◌, Bool, cond, ◌&&◌, ltb}
use Rattle.std.proofs.Math.Option.{Option}
use Rattle.text.specs.Reader.{miss, refuse, got, Reader, opt, or_miss, BadTime, ◌>>=◌, ◌>>◌}
use Rattle.text.specs.Number.{two_bytes}
use Rattle.decimal.specs.Places.{long_decimal}

pub record Time : Type 0 where
  pub hour : ℕ
  pub minute : ℕ
  pub second : ℕ
  pub nanosecond : ℕ

-- of the digits, as one number `size`, the last `k` stand after the point: those before it are the second, those after it the nanoseconds
abbrev pub second_of : ℕ → ℕ → ℕ
second_of size k = size / 10 ^ k

abbrev pub nanosecond_of : ℕ → ℕ → ℕ
nanosecond_of size k = size % 10 ^ k * 10 ^ (9 - k)

-- seconds without a sign: minus zero has one too
unfoldable pub no_sign : Bool → Reader (Unit {0})
no_sign minus l = cond minus miss (got tt l)

-- a time within its ranges, unless its nanoseconds are not below 1,000,000,000
unfoldable pub timed : Time → Reader Time
timed t l = cond (ltb t.nanosecond 1000000000) (got t l) (refuse BadTime)

-- the ranges, then BadTime
unfoldable pub clock : ℕ → ℕ → ℕ → ℕ → Reader Time
clock h m size k l =
    cond (ltb h 24 && ltb m 60 && ltb (second_of size k) 60)
    (timed (record { hour = h; minute = m; second = second_of size k; nanosecond = nanosecond_of size k }) l)
    miss

-- parse_hms
unfoldable pub hms : Reader Time
hms = do
  hour ← two_bytes
  minute ← two_bytes
  seconds ← long_decimal
  d ← or_miss seconds
  no_sign d.minus
  clock hour minute d.size d.decimals

-- opt(parse_hms): the comma that must follow it refuses what is neither empty nor a time
abbrev pub opt_hms : Reader (Option Time)
opt_hms = opt hms
