-- Plain decimals, and a decimal place. 01: "A plain decimal is one or more digits, optionally a point and one or more
-- digits. It may begin with one minus sign, which is not counted as a digit. At a decimal place the text runs to the next
-- comma or the end of data."
use Rattle.std.specs.Prelude.{ℕ, ◌+◌, List, [], ◌∷◌, Bool, true, false, cond, ◌&&◌, length, eqb, leb, ltb}
use Rattle.std.proofs.Math.Option.{Option, none, some, map}
use Rattle.text.specs.Bytes.{byte}
use Rattle.text.specs.Reader.{Parse, refuse, got, Reader, Number}
use Rattle.text.specs.Number.{leading_digits, after_digits, value_from, only_digits}

-- the most digits in all, before the point and after it
pub record Limits : Type 0 where
  pub all : ℕ
  pub before : ℕ
  pub after : ℕ

abbrev pub limits : ℕ → ℕ → ℕ → Limits
limits a b c = record { all = a; before = b; after = c }

-- speed, course, variation, DOP: at most 7 digits in all, so that the two other limits say no more
abbrev pub short : Limits
short = record { all = 7; before = 7; after = 7 }

-- minutes of arc, seconds: 1 to 3 digits before the point, at most 9 after
abbrev pub long : Limits
long = record { all = 12; before = 3; after = 9 }

-- the sign, the digits as one number, and how many of them stand after the point
pub record Decimal : Type 0 where
  pub minus : Bool
  pub size : ℕ
  pub decimals : ℕ

abbrev pub without_sign : ℕ → ℕ → Decimal
without_sign n k = record { minus = false; size = n; decimals = k }

-- the same digits behind a minus sign: of zero too, which is then minus zero
abbrev pub negative : Decimal → Decimal
negative d = record { minus = true; size = d.size; decimals = d.decimals }

-- the text up to the next comma or the end, and what is left
abbrev pub text : List ℕ → List ℕ
text [] = []
text (b ∷ l) = cond (eqb b (byte ",")) [] (b ∷ text l)

abbrev pub from_comma : List ℕ → List ℕ
from_comma [] = []
from_comma (b ∷ l) = cond (eqb b (byte ",")) (b ∷ l) (from_comma l)

-- the digits after the point, where nothing or a point and one or more digits stand there
abbrev pub fraction : List ℕ → Option (List ℕ)
fraction [] = some []
fraction (b ∷ l) = cond (eqb b (byte ".") && only_digits l) (some (leading_digits l)) none

abbrev pub in_limits : Limits → ℕ → ℕ → Bool
in_limits lim m n = leb m lim.before && leb n lim.after && leb (m + n) lim.all

abbrev pub within : Limits → List ℕ → Option (List ℕ) → Option Decimal
within lim ds none = none
within lim ds (some es) =
    cond (in_limits lim (length ds) (length es)) (some (without_sign (value_from (value_from 0 ds) es) (length es))) none

-- one or more digits, optionally a point and one or more digits, within the limits
abbrev pub digits : Limits → List ℕ → Option Decimal
digits lim t = cond (ltb 0 (length (leading_digits t))) (within lim (leading_digits t) (fraction (after_digits t))) none

-- the same, or behind one minus sign: `Plain` says it in words, and proofs/Exactly shows that the two are one
abbrev pub plain : Limits → List ℕ → Option Decimal
plain lim [] = none
plain lim (b ∷ t) = cond (eqb b (byte "-")) (map negative (digits lim t)) (digits lim (b ∷ t))

abbrev pub or_number : Option Decimal → List ℕ → Parse (Option Decimal)
or_number none l = refuse Number
or_number (some d) l = got (some d) l

-- what a place holds, where `read` reads its text: absent where that is empty, the refusal Number where it means nothing
abbrev pub place_of : (List ℕ → Option Decimal) → Reader (Option Decimal)
place_of read l = cond (eqb (length (text l)) 0) (got none (from_comma l)) (or_number (read (text l)) (from_comma l))

-- a decimal place
unfoldable pub decimal : Limits → Reader (Option Decimal)
decimal lim l = place_of (plain lim) l
