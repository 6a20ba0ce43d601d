-- The two checksum bytes of 01, "Framing": each a hexadecimal digit in either case, or the first is `+`.
use Rattle.std.specs.Prelude.{ℕ, ◌+◌, ◌-◌, ◌*◌, Bool, cond, ◌&&◌, List, [], ◌∷◌, eqb, leb}
use Rattle.std.proofs.Math.Option.{Option, none, some}
use Rattle.text.specs.Bytes.{byte}

abbrev pub within : ℕ → ℕ → ℕ → Bool
within lo hi b = leb lo b && leb b hi

-- a hexadecimal digit, in either case
unfoldable pub digit : ℕ → Option ℕ
digit b =
    cond (within (byte "0") (byte "9") b) (some (b - byte "0"))
    (cond (within (byte "A") (byte "F") b) (some (b - byte "A" + 10))
    (cond (within (byte "a") (byte "f") b) (some (b - byte "a" + 10)) none))

-- `+` in front counts nothing
abbrev pub lead_digit : ℕ → Option ℕ
lead_digit b = cond (eqb b (byte "+")) (some 0) (digit b)

abbrev pub sixteens : Option ℕ → Option ℕ → Option ℕ
sixteens (some a) (some b) = some (a * 16 + b)
sixteens (some a) none = none
sixteens none b = none

-- parse_hex of two bytes
unfoldable pub hex : List ℕ → Option ℕ
hex (a ∷ b ∷ []) = sixteens (lead_digit a) (digit b)
hex [] = none
hex (a ∷ []) = none
hex (a ∷ b ∷ c ∷ l) = none
