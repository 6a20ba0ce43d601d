-- Satellite systems by number, as a GSA sentence names them in its tail and by its talker.
use Rattle.std.specs.Prelude.{ℕ, Bool, cond, ◌&&◌, ◌||◌, eqb, leb}
use Rattle.std.proofs.Math.Option.{Option, none, some}
use Prim.Native.Char.{Char}
use Rattle.text.specs.Bytes.{byte}

-- gnss_type.rs: 1 GPS, 2 GLONASS, 3 Galileo, 4 BeiDou
abbrev pub gps : ℕ
gps = 1

abbrev pub glonass : ℕ
glonass = 2

abbrev pub galileo : ℕ
galileo = 3

abbrev pub beidou : ℕ
beidou = 4

-- "Unknown systems are absent": a number is that of a system, or of none
abbrev pub known : ℕ → Option ℕ
known n = cond (leb gps n && leb n beidou) (some n) none

-- the two bytes of a talker
abbrev pub spells : ℕ → ℕ → Char → Char → Bool
spells a b x y = eqb a (byte x) && eqb b (byte y)

-- "Talkers GA, GP, GL and BD or GB name a system"
abbrev pub named : ℕ → ℕ → Option ℕ
named a b =
    cond (spells a b "G" "A") (some galileo)
    (cond (spells a b "G" "P") (some gps)
    (cond (spells a b "G" "L") (some glonass)
    (cond (spells a b "B" "D" || spells a b "G" "B") (some beidou) none)))

-- the system of a sentence, if it has one; or two that differ: the talker's and the tail's
pub data Settled : Type 0 where
  is : Option ℕ → Settled
  mismatch : ℕ → ℕ → Settled

-- "two different ones are 8; an absent one is taken from the talker": the talker's first, and then the tail's
abbrev pub settle : Option ℕ → Option ℕ → Settled
settle none tail = is tail
settle (some m) none = is (some m)
settle (some m) (some n) = cond (eqb m n) (is (some n)) (mismatch m n)
