-- The parts that the words of an answer are made of. docs/ABI.md: "a word that is not named is 0, and so is each word of a part that
-- is absent. A signed number takes two words: its sign, 1 if it is below zero, and its size. Floats are given by their bits. Letters
-- are given by their bytes."
use Rattle.std.specs.Prelude.{ℕ, zero, suc, List, [], ◌∷◌, ◌++◌, replicate, ℤ, pos, negsuc, nat_abs, Float}
use Rattle.std.proofs.Math.Option.{Option, none, some}
use Rattle.std.specs.Float.{binary32, binary64}
use Rattle.decimal.specs.Bits.{bits_of}
use Rattle.decimal.specs.Places.{Short}
use Rattle.fields.specs.Time.{Time}
use Rattle.fields.specs.Date.{Date}
use Rattle.fields.specs.Position.{Position, LatLon}
use Rattle.gsa.specs.Gsa.{Dops}

abbrev pub zeros : ℕ → List ℕ
zeros n = replicate n 0

-- the first `n` of a list, and zeros where it has ended
abbrev pub padded : ℕ → List ℕ → List ℕ
padded zero l = []
padded (suc n) [] = 0 ∷ padded n []
padded (suc n) (x ∷ l) = x ∷ padded n l

-- a part that may be absent, of `n` words where it is not: 1 and its words, or zeros
abbrev pub present : {A : Type 0} → ℕ → (A → List ℕ) → Option A → List ℕ
present n words none = zeros (suc n)
present n words (some x) = 1 ∷ words x

abbrev pub sign : ℤ → ℕ
sign (pos n) = 0
sign (negsuc n) = 1

abbrev pub signed_words : ℤ → List ℕ
signed_words z = sign z ∷ nat_abs z ∷ []

abbrev pub bits32 : Float → ℕ
bits32 x = bits_of binary32 0x7FC00000 x

abbrev pub bits64 : Float → ℕ
bits64 x = bits_of binary64 0x7FF8000000000000 x

-- a number with a 1 before it if it is present
abbrev pub number_words : ℕ → List ℕ
number_words n = n ∷ []

abbrev pub option_words : Option ℕ → List ℕ
option_words n = present 1 number_words n

-- 1 if there is a time; hour, minute, second, nanosecond
abbrev pub clock_words : Time → List ℕ
clock_words t = t.hour ∷ t.minute ∷ t.second ∷ t.nanosecond ∷ []

abbrev pub time_words : Option Time → List ℕ
time_words t = present 4 clock_words t

-- 1 if there is a date; year, month, day
abbrev pub day_words : Date → List ℕ
day_words d = d.year ∷ d.month ∷ d.day ∷ []

abbrev pub date_words : Option Date → List ℕ
date_words d = present 3 day_words d

-- sign and size of its count of billionths of a minute, letter, f64 in degrees
abbrev pub coordinate_words : Position → List ℕ
coordinate_words p = signed_words p.count ++ (p.letter ∷ bits64 p.degrees ∷ [])

-- 1 if there is a position; latitude, longitude
abbrev pub both_words : LatLon → List ℕ
both_words p = coordinate_words p.lat ++ coordinate_words p.lon

abbrev pub position_words : Option LatLon → List ℕ
position_words p = present 8 both_words p

-- sign and size of its digits as a whole number, count of decimals, f32
abbrev pub dop_words : Short → List ℕ
dop_words d = signed_words d.whole ++ (d.decimals ∷ bits32 d.value ∷ [])

-- 1 if there is a short decimal; the decimal
abbrev pub short_words : Option Short → List ℕ
short_words d = present 4 dop_words d

-- 1 if there are DOPs; PDOP, HDOP, VDOP
abbrev pub three_words : Dops → List ℕ
three_words d = dop_words d.pdop ++ (dop_words d.hdop ++ dop_words d.vdop)

abbrev pub dops_words : Option Dops → List ℕ
dops_words d = present 12 three_words d
