-- A plain decimal within limits, as 01 says it: which texts are one, and what they write.
use Rattle.std.specs.Prelude.{ℕ, ◌+◌, ◌≤◌, ◌<◌, List, ◌∷◌, ◌++◌, length}
use Rattle.text.specs.Bytes.{byte}
use Rattle.text.specs.Number.{AllDigits, value_from}
use Rattle.decimal.specs.Decimal.{Limits, Decimal, without_sign, negative}

-- one or more digits
pub record Digits (ds : List ℕ) : Type 0 where
  pub at_least_one : 0 < length ds
  pub all : AllDigits ds

-- the text `t` is digits within the limits, optionally with a point among them, and writes `d`
pub data Unsigned (lim : Limits) : List ℕ → Decimal → Type 0 where
  unpointed : {ds : List ℕ}
      → Digits ds
      → length ds ≤ lim.before
      → length ds ≤ lim.all
      → Unsigned lim ds (without_sign (value_from 0 ds) 0)
  pointed : {ds es : List ℕ}
      → Digits ds
      → Digits es
      → length ds ≤ lim.before
      → length es ≤ lim.after
      → length ds + length es ≤ lim.all
      → Unsigned lim (ds ++ (byte "." ∷ es)) (without_sign (value_from 0 (ds ++ es)) (length es))

-- the text `t` is a plain decimal within the limits, and writes `d`
pub data Plain (lim : Limits) : List ℕ → Decimal → Type 0 where
  bare : {t : List ℕ} {d : Decimal} → Unsigned lim t d → Plain lim t d
  minus : {t : List ℕ} {d : Decimal} → Unsigned lim t d → Plain lim (byte "-" ∷ t) (negative d)
