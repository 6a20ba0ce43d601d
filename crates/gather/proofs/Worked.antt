-- Lent rows at work, by computing: which of them stand for a run, what lines write, and what a line does to a row that does not stand.
-- Assumes nothing.
use Prim.Native.Nat.{ℕ, ◌-◌}
use mathlib.Core.Path.{◌≡◌, refl}
use mathlib.Core.List.{List, [], ◌∷◌, ◌++◌}
use mathlib.Core.Bool.{true, false}
use mathlib.Core.Option.{none, some}
use lib.ListN.{length, take, set, replicate}
use Rattle.groups.specs.Log.{Gsv}
use Rattle.gsv.specs.Gsv.{Satellite}
use Rattle.pack.specs.Cut.{more}
use Rattle.short.specs.Digits.{digits_for, digits_of}
use Rattle.short.specs.Texts.{entry_text}
use Rattle.gather.specs.Words.{row_words, flat, stands}
use Rattle.gather.specs.Put.{row_after, outcome_of}
use Rattle.gather.specs.declared.line.Outcome.TheVariants.{NoRow, Nothing, Waiting, Complete}

-- the words of a row with these entries; behind them a word that no row has, since it is not looked at
abbrev row : ℕ → ℕ → ℕ → ℕ → List Satellite → List ℕ
row n next view count es =
    n ∷ next ∷ view ∷ count ∷ (flat es ++ replicate (row_words - 4 - length (flat es)) 77)

-- an entry with all its numbers at their largest but for the signal
abbrev large : ℕ → Satellite
large signal = record { id = 4294967295; elevation = some 2147483647; azimuth = some 2147483647; signal = some signal }

abbrev plain : ℕ → Satellite
plain id = record { id = id; elevation = none; azimuth = none; signal = none }

-- one line taken of two, with entries that need 103 bytes, or 102
abbrev too-wide : List ℕ
too-wide = row 2 2 8 2 (large 2147483647 ∷ large 2147483647 ∷ [])

abbrev just-fits : List ℕ
just-fits = row 2 2 8 2 (large 2147483647 ∷ large 214748364 ∷ [])

bytes-103 : stands too-wide ≡ false
unfolding more digits_of digits_for entry_text
bytes-103 = refl

bytes-102 : stands just-fits ≡ true
unfolding more digits_of digits_for entry_text
bytes-102 = refl

-- an ordinary row, whatever stands behind its entries; and rows that it is not
ordinary : stands (row 3 2 5 2 (plain 7 ∷ plain 8 ∷ [])) ≡ true
unfolding more digits_of digits_for entry_text
ordinary = refl

five-of-one-line : stands (row 3 2 5 5 (plain 1 ∷ plain 2 ∷ plain 3 ∷ plain 4 ∷ plain 5 ∷ [])) ≡ false
unfolding more digits_of digits_for entry_text
five-of-one-line = refl

too-large : stands (row 3 2 5 1 (large 2147483648 ∷ [])) ≡ false
unfolding more digits_of digits_for entry_text
too-large = refl

cells-37 : stands (row 3 2 5 37 []) ≡ false
unfolding more digits_of digits_for entry_text
cells-37 = refl

not-begun : stands (row 3 1 5 0 []) ≡ false
not-begun = refl

past-its-last : stands (row 3 4 5 0 []) ≡ false
past-its-last = refl

ten-lines : stands (row 10 2 5 0 []) ≡ false
ten-lines = refl

view-65536 : stands (row 3 2 65536 0 []) ≡ false
view-65536 = refl

nothing-in-it : stands (replicate row_words 0) ≡ false
nothing-in-it = refl

a-word-short : stands (take 147 (row 3 2 5 2 (plain 7 ∷ plain 8 ∷ []))) ≡ false
a-word-short = refl

-- line k of 2, with one entry or none
abbrev line : ℕ → ℕ → List Satellite → Gsv Satellite
line k v es = record { key = 0; n = 2; number = k; view = v; sats = es }

abbrev entry : ℕ → Satellite
entry id = record { id = id; elevation = some 45; azimuth = none; signal = some 30 }

-- a first line writes its head and its cells, and waits
abbrev first : List ℕ
first = row_after (row 0 0 0 0 []) (line 1 2 (entry 7 ∷ []))

waits : (first ≡ row 2 2 2 1 (entry 7 ∷ [])) × (outcome_of (row 0 0 0 0 []) (line 1 2 (entry 7 ∷ [])) ≡ Waiting)
unfolding more digits_of digits_for entry_text
waits = (refl, refl)

completes : (row_after first (line 2 2 (entry 8 ∷ [])) ≡ row 2 0 2 2 (entry 7 ∷ entry 8 ∷ [])) × (outcome_of first (line 2 2 (entry 8 ∷ [])) ≡ Complete)
unfolding more digits_of digits_for entry_text
completes = (refl, refl)

-- another in-view count breaks the run: one word is written
breaks : (row_after first (line 2 3 (entry 8 ∷ [])) ≡ set first 1 0) × (outcome_of first (line 2 3 (entry 8 ∷ [])) ≡ Nothing)
unfolding more digits_of digits_for entry_text
breaks = (refl, refl)

-- line 2 of 2, in view 8: it closes the run of 102 bytes, and that of 103 counts as empty
closes : outcome_of just-fits (line 2 8 []) ≡ Complete
unfolding more digits_of digits_for entry_text
closes = refl

counts-as-empty : (outcome_of too-wide (line 2 8 []) ≡ Nothing) × (row_after too-wide (line 2 8 []) ≡ set too-wide 1 0)
unfolding more digits_of digits_for entry_text
counts-as-empty = (refl, refl)

-- words that are no row
no-row : (outcome_of (0 ∷ []) (line 1 2 []) ≡ NoRow) × (row_after (0 ∷ []) (line 1 2 []) ≡ 0 ∷ [])
no-row = (refl, refl)
