-- The shortest text of an entry, and of the data of a GSV sentence.
use Rattle.std.specs.Prelude.{ℕ, ◌≤◌, List, [], ◌∷◌, ◌++◌, drop}
use Rattle.std.proofs.Math.Option.{Option, none, some}
use Rattle.text.specs.Bytes.{byte}
use Rattle.gsv.specs.Gsv.{id_max, place_max, Satellite, Gsv}
use Rattle.short.specs.Digits.{digits_of}

-- a number that may be absent
abbrev pub opt_text : Option ℕ → List ℕ
opt_text none = []
opt_text (some n) = digits_of n

-- its four places with commas between; the closing comma is not the entry's own
unfoldable pub entry_text : Satellite → List ℕ
entry_text s =
    digits_of s.id ++ byte "," ∷ (opt_text s.elevation ++ byte "," ∷ (opt_text s.azimuth ++ byte "," ∷ opt_text s.signal))

-- entries with commas between, where the data ends
abbrev pub entries_text : List Satellite → List ℕ
entries_text [] = []
entries_text (s ∷ []) = entry_text s
entries_text (s ∷ t ∷ ts) = entry_text s ++ byte "," ∷ entries_text (t ∷ ts)

unfoldable pub data_text : ℕ → ℕ → ℕ → List Satellite → List ℕ
data_text n k v es = digits_of n ++ byte "," ∷ (digits_of k ++ byte "," ∷ (digits_of v ++ byte "," ∷ entries_text es))

-- numbers that an entry can have
abbrev pub Upto : ℕ → Option ℕ → Type 0
Upto max none = Unit {0}
Upto max (some n) = n ≤ max

pub record Readable (s : Satellite) : Type 0 where
  pub id : s.id ≤ id_max
  pub elevation : Upto place_max s.elevation
  pub azimuth : Upto place_max s.azimuth
  pub signal : Upto place_max s.signal

abbrev pub AllReadable : List Satellite → Type 0
AllReadable [] = Unit {0}
AllReadable (s ∷ ss) = Readable s × AllReadable ss

abbrev pub first_of : List Satellite → Option Satellite
first_of [] = none
first_of (s ∷ ss) = some s

-- data that has the first four of these entries, and no others
abbrev pub body_of : ℕ → ℕ → ℕ → List Satellite → Gsv
body_of n k v es =
    record {
      count = n;
      index = k;
      view = v;
      first = first_of es;
      second = first_of (drop 1 es);
      third = first_of (drop 2 es);
      fourth = first_of (drop 3 es);
    }
