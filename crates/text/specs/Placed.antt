-- The code takes a whole text and a place in it, and answers the next place; a reader takes the text from there on, and
-- answers the text that is left. `Reads` ties the two.
use Rattle.std.specs.Prelude.{ℕ, ◌+◌, ◌-◌, ◌≡◌, List, length, drop}
use Rattle.text.specs.Reader.{Fault, Parse, miss, refuse, got, Reader}

pub data Placed (A : Type 0) : Type 0 where
  unread : Placed A
  refused : Fault → Placed A
  upto : A → ℕ → Placed A

-- the place is as many bytes past `at` as were read
abbrev pub placed : {A : Type 0} → ℕ → List ℕ → Parse A → Placed A
placed at l miss = unread
placed at l (refuse f) = refused f
placed at l (got a m) = upto a (at + (length l - length m))

-- the text from the place on is left
abbrev pub left : {A : Type 0} → List ℕ → Placed A → Parse A
left s unread = miss
left s (refused f) = refuse f
left s (upto a p) = got a (drop p s)

-- `r` is what the reader `q` reads of the text `s` at the place `at`
pub record Reads {A : Type 0} (s : List ℕ) (at : ℕ) (q : Reader A) (r : Placed A) : Type 0 where
  pub answer : r ≡ placed at (drop at s) (q (drop at s))
  pub leaves : q (drop at s) ≡ left s r
