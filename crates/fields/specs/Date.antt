-- Dates of the Gregorian calendar, as ddmmyy.
use Rattle.std.specs.Prelude.{ℕ, ◌+◌, ◌%◌, Bool, cond, ◌&&◌, ◌||◌, eqb, leb}
use Rattle.std.proofs.Math.Option.{Option, none, some}
use Rattle.text.specs.Reader.{Reader, opt, or_miss, ◌>>=◌}
use Rattle.text.specs.Number.{two_bytes}

pub record Date : Type 0 where
  pub year : ℕ
  pub month : ℕ
  pub day : ℕ

-- Inter gravissimas (1582): every fourth year is a leap year, and of the full centuries every fourth
abbrev pub leap : ℕ → Bool
leap y = cond (eqb (y % 100) 0) (eqb (y % 400) 0) (eqb (y % 4) 0)

-- April, June, September and November have thirty days
abbrev pub thirty : ℕ → Bool
thirty m = eqb m 4 || eqb m 6 || eqb m 9 || eqb m 11

abbrev pub days_in : ℕ → ℕ → ℕ
days_in y m = cond (eqb m 2) (cond (leap y) 29 28) (cond (thirty m) 30 31)

-- 83 to 99 are 1983 to 1999, 0 to 82 are 2000 to 2082
abbrev pub full_year : ℕ → ℕ
full_year y = cond (leb 83 y) (1900 + y) (2000 + y)

-- the month is one of twelve, and has the day
abbrev pub date_of : ℕ → ℕ → ℕ → Option Date
date_of d m y =
    cond (leb 1 m && leb m 12 && leb 1 d && leb d (days_in y m)) (some (record { year = y; month = m; day = d })) none

-- parse_date: day first
unfoldable pub date : Reader Date
date = do
  day ← two_bytes
  month ← two_bytes
  year ← two_bytes
  or_miss (date_of day month (full_year year))

-- opt(parse_date)
abbrev pub opt_date : Reader (Option Date)
opt_date = opt date
