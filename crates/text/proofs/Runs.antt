-- The digits that a text begins with: with what follows they are the text, and digits before a text that begins with none are read whole.
-- Assumes nothing.
use Prim.Native.Nat.{ℕ, ◌+◌, ◌-◌, ◌*◌, ◌≤◌, ◌<◌}
use native.Mathlib.Omega.{arith}
use mathlib.Core.Path.{◌≡◌, refl, ap}
use mathlib.Core.Bool.{Bool, true, false, cond}
use mathlib.Core.List.{List, [], ◌∷◌, ◌++◌}
use lib.ListN.{length}
use borrow.Author.Tests.{le-leb, lt-ltb}
use Rattle.text.specs.Reader.{got}
use Rattle.text.specs.Number.{is_digit, AllDigits, leading_digits, after_digits, value_from, number_from, number}

-- a text is the digits at its front and what follows them
pub together : (l : List ℕ) → leading_digits l ++ after_digits l ≡ l
together [] = refl
together (b ∷ l) = by (is_digit b) (together l)
  where
    by : (t : Bool) → leading_digits l ++ after_digits l ≡ l → cond t (b ∷ leading_digits l) [] ++ cond t (after_digits l) (b ∷ l) ≡ b ∷ l
    by true h = ap (λ (x : List ℕ). b ∷ x) h
    by false h = refl

pub begin-digits : (l : List ℕ) → AllDigits (leading_digits l)
begin-digits [] = tt
begin-digits (b ∷ l) = by (is_digit b) refl (begin-digits l)
  where
    by : (t : Bool) → is_digit b ≡ t → AllDigits (leading_digits l) → AllDigits (cond t (b ∷ leading_digits l) [])
    by true e p = (e, p)
    by false e p = tt

-- digits in front of a text that begins with none are the digits that it begins with
pub digits-front : (ds rest : List ℕ) → AllDigits ds → leading_digits rest ≡ [] → leading_digits (ds ++ rest) ≡ ds
digits-front [] rest p e = e
digits-front (b ∷ ds) rest p e = rw p.0 (ap (λ (l : List ℕ). b ∷ l) (digits-front ds rest p.1 e))

after-none : (rest : List ℕ) → leading_digits rest ≡ [] → after_digits rest ≡ rest
after-none [] e = refl
after-none (b ∷ l) e = by (is_digit b) e
  where
    by : (t : Bool) → cond t (b ∷ leading_digits l) [] ≡ [] → cond t (after_digits l) (b ∷ l) ≡ b ∷ l
    by true e = let z : ◌≡◌ {A = ℕ} 0 1 = cc in absurd (omega arith)
    by false e = refl

pub after-front : (ds rest : List ℕ) → AllDigits ds → leading_digits rest ≡ [] → after_digits (ds ++ rest) ≡ rest
after-front [] rest p e = after-none rest e
after-front (b ∷ ds) rest p e = rw p.0 (after-front ds rest p.1 e)

-- READING DIGITS: one or more digits, leading zeros too, before a text that begins with none
pub number-of : (max : ℕ) (ds rest : List ℕ) → AllDigits ds → 0 < length ds → leading_digits rest ≡ [] → value_from 0 ds ≤ max
    → number max (ds ++ rest) ≡ got (value_from 0 ds) rest
unfolding number number_from
number-of max ds rest p h e m =
    rw (digits-front ds rest p e, after-front ds rest p e, lt-ltb 0 (length ds) h, le-leb (value_from 0 ds) max m)

-- what digits write, one after the other
pub value-append : (n : ℕ) (a b : List ℕ) → value_from n (a ++ b) ≡ value_from (value_from n a) b
value-append n [] b = refl
value-append n (x ∷ a) b = value-append (n * 10 + (x - 48)) a b
