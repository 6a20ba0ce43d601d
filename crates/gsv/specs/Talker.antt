-- The talkers of GSV and their systems. 01: "The talker decides before the body: GA, GP, GL, BD or GB, GI, and GQ, PQ or QZ
-- (QZSS); else 7."
use Rattle.std.specs.Prelude.{ℕ, cond, ◌&&◌, List, [], ◌∷◌, eqb}
use Rattle.std.proofs.Math.Option.{Option, none, some}
use Rattle.text.specs.Bytes.{byte, bytes}

pub data Talker : Type 0 where
  ga : Talker
  gp : Talker
  gl : Talker
  bd : Talker
  gb : Talker
  gi : Talker
  gq : Talker
  pq : Talker
  qz : Talker

pub data System : Type 0 where
  gps : System
  glonass : System
  galileo : System
  beidou : System
  qzss : System
  navic : System

-- the number of a system: 1 to 4 as GSA has them, then as NMEA 0183 numbers them since 4.11
abbrev pub system_number : System → ℕ
system_number gps = 1
system_number glonass = 2
system_number galileo = 3
system_number beidou = 4
system_number qzss = 5
system_number navic = 6

-- a talker and its two letters
pub record Row : Type 0 where
  pub first : ℕ
  pub second : ℕ
  pub talker : Talker

abbrev pub row : ℕ → ℕ → Talker → Row
row a b t = record { first = a; second = b; talker = t }

abbrev pub talkers : List Row
talkers =
    row (byte "G") (byte "A") ga
    ∷ row (byte "G") (byte "P") gp
    ∷ row (byte "G") (byte "L") gl
    ∷ row (byte "B") (byte "D") bd
    ∷ row (byte "G") (byte "B") gb
    ∷ row (byte "G") (byte "I") gi
    ∷ row (byte "G") (byte "Q") gq
    ∷ row (byte "P") (byte "Q") pq
    ∷ row (byte "Q") (byte "Z") qz
    ∷ []

-- the talker of the row that has the two letters
unfoldable pub row_for : List Row → ℕ → ℕ → Option Talker
row_for [] a b = none
row_for (r ∷ rs) a b = cond (eqb a r.first && eqb b r.second) (some r.talker) (row_for rs a b)

abbrev pub talker_of : ℕ → ℕ → Option Talker
talker_of a b = row_for talkers a b

abbrev pub letters_of : Talker → List ℕ
letters_of ga = bytes "GA"
letters_of gp = bytes "GP"
letters_of gl = bytes "GL"
letters_of bd = bytes "BD"
letters_of gb = bytes "GB"
letters_of gi = bytes "GI"
letters_of gq = bytes "GQ"
letters_of pq = bytes "PQ"
letters_of qz = bytes "QZ"

-- the system that it names
abbrev pub system_of : Talker → System
system_of ga = galileo
system_of gp = gps
system_of gl = glonass
system_of bd = beidou
system_of gb = beidou
system_of gi = navic
system_of gq = qzss
system_of pq = qzss
system_of qz = qzss
