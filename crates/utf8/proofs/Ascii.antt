-- An ASCII text is valid UTF-8: each of its octets is a whole character, of the table's first row. And whether a text is ASCII from a
-- place on, an octet at a time, as a loop reads it. Assumes nothing.
use Prim.Native.Nat.{ℕ, ◌+◌, ◌≤◌, ◌<◌, max}
use native.Mathlib.Omega.{arith}
use mathlib.Core.Path.{◌≡◌, refl, ap, sym}
use mathlib.Core.List.{List, [], ◌∷◌}
use mathlib.Core.Option.{some}
use mathlib.Core.Bool.{Bool, true, false, ◌&&◌, and-eq-true_iff, and_assoc, and-true}
use lib.Dec.{ltb}
use lib.ListN.{length, drop, get_or, drop_of_length-le}
use borrow.Author.Tests.{ltb-true, ltb-false, lt-ltb, le-ltb}
use Rattle.utf8.specs.Rfc3629.{utf8_char}
use Rattle.utf8.specs.Utf8.{step, after, may_end, utf8, ascii}
use Rattle.utf8.proofs.Table.{regional}
use Rattle.utf8.proofs.Pieces.{here}

pub ascii-whole : (l : List ℕ) → ascii l ≡ true → after (some []) l ≡ some []
unfolding after step ascii
ascii-whole [] e = refl
ascii-whole (b ∷ l) e =
    let w = (and-eq-true_iff (ltb b 0x80) (ascii l)).0 e in
    let low = ltb-true b 0x80 w.0 in
    rw (regional 0x00 0x7F utf8_char b refl (omega arith) (omega arith)) (ascii-whole l w.1)

-- an ASCII text is valid
pub ascii-utf8 : (l : List ℕ) → ascii l ≡ true → utf8 l ≡ true
ascii-utf8 l e = ap may_end (ascii-whole l e)

-- two octets are below a bound where the larger is
both-low : (a b c : ℕ) → (ltb a c && ltb b c) ≡ ltb (max a b) c
both-low a b c = by (ltb a c) (ltb b c) refl refl
  where
    by : (x y : Bool) → ltb a c ≡ x → ltb b c ≡ y → (x && y) ≡ ltb (max a b) c
    by true true p q = let u = ltb-true a c p in let v = ltb-true b c q in sym (lt-ltb (max a b) c (omega arith))
    by true false p q = let v = ltb-false b c q in sym (le-ltb (max a b) c (omega arith))
    by false y p q = let u = ltb-false a c p in sym (le-ltb (max a b) c (omega arith))

module _ (s : List ℕ) (i top : ℕ) where
  pub one-octet : {next : ℕ} → i < length s → next ≡ max top (get_or s i 0)
      → (ltb top 0x80 && ascii (drop i s)) ≡ (ltb next 0x80 && ascii (drop (i + 1) s))
  unfolding ascii
  one-octet h e = rw (here s i h, e, ← both-low top (get_or s i 0) 0x80, and_assoc)

  pub no-octet : length s ≤ i → (ltb top 0x80 && ascii (drop i s)) ≡ ltb top 0x80
  unfolding ascii
  no-octet h = rw (drop_of_length-le s h, and-true)
