-- Worked texts, and runs that four entries to a line let stand and the 102 bytes do not, by computation. Assumes nothing.
use Prim.Native.Nat.{ℕ, ◌+◌}
use mathlib.Core.Path.{◌≡◌, refl}
use mathlib.Core.List.{List, [], ◌∷◌}
use mathlib.Core.Bool.{true, false}
use mathlib.Core.Option.{none, some}
use lib.ListN.{length}
use Rattle.text.specs.Bytes.{bytes}
use Rattle.groups.specs.Step.{Open}
use Rattle.gsv.specs.Gsv.{Satellite}
use Rattle.short.specs.Digits.{digits_of, digits_for}
use Rattle.short.specs.Texts.{entry_text, data_text}
use Rattle.pack.specs.Cut.{more}
use Rattle.rows.specs.Leave.{leavable}

pub digits-of-zero : digits_of 0 ≡ bytes "0"
unfolding digits_of digits_for
digits-of-zero = refl

pub digits-of-the-largest : digits_of 4294967295 ≡ bytes "4294967295"
unfolding digits_of digits_for
digits-of-the-largest = refl

abbrev pub largest : Satellite
largest = record { id = 4294967295; elevation = some 2147483647; azimuth = some 2147483647; signal = some 2147483647 }

-- one digit less
abbrev pub larger : Satellite
larger = record { id = 4294967295; elevation = some 2147483647; azimuth = some 2147483647; signal = some 214748364 }

abbrev pub smallest : Satellite
smallest = record { id = 7; elevation = none; azimuth = none; signal = none }

abbrev pub run : ℕ → ℕ → ℕ → List Satellite → Open Satellite
run n next view es = record { n = n; next = next; view = view; sats = es }

pub a-data : data_text 9 1 65535 (largest ∷ smallest ∷ []) ≡ bytes "9,1,65535,4294967295,2147483647,2147483647,2147483647,7,,,"
unfolding digits_of digits_for entry_text data_text
a-data = refl

-- one line can leave one entry of the largest numbers, and not two
pub one-largest : leavable (run 9 2 65535 (largest ∷ [])) ≡ true
unfolding digits_of digits_for entry_text more
one-largest = refl

pub two-largest : leavable (run 9 2 65535 (largest ∷ largest ∷ [])) ≡ false
unfolding digits_of digits_for entry_text more
two-largest = refl

-- with the shortest in-view count there is a byte too many
pub byte-over : leavable (run 2 2 8 (largest ∷ largest ∷ [])) ≡ false
unfolding digits_of digits_for entry_text more
byte-over = refl

pub byte-over-bytes : 10 + length (data_text 2 1 8 (largest ∷ largest ∷ [])) ≡ 103
unfolding digits_of digits_for entry_text data_text
byte-over-bytes = refl

-- and with a digit less it is not too many
pub just-fits : leavable (run 2 2 8 (largest ∷ larger ∷ [])) ≡ true
unfolding digits_of digits_for entry_text more
just-fits = refl

pub just-fits-bytes : 10 + length (data_text 2 1 8 (largest ∷ larger ∷ [])) ≡ 102
unfolding digits_of digits_for entry_text data_text
just-fits-bytes = refl

pub two-lines : leavable (run 9 3 65535 (largest ∷ smallest ∷ smallest ∷ smallest ∷ largest ∷ [])) ≡ true
unfolding digits_of digits_for entry_text more
two-lines = refl

-- the small entry has room beside a large one, and the two others need a line each
pub a-gap : leavable (run 9 3 11 (smallest ∷ largest ∷ largest ∷ largest ∷ [])) ≡ false
unfolding digits_of digits_for entry_text more
a-gap = refl
