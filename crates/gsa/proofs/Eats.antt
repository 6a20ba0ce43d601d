-- What an item eats, and how large its number is: digits are a part of the text, a comma is one byte of it, and a number's
-- reading tests the limit. Assumes nothing.
use Prim.Native.Nat.{ℕ, ◌≤◌, ◌<◌}
use native.Mathlib.Omega.{arith}
use mathlib.Core.Path.{◌≡◌, refl}
use mathlib.Core.Bool.{Bool, true, false, cond}
use mathlib.Core.List.{List, [], ◌∷◌}
use mathlib.Core.Option.{Option, none, some}
use lib.ListN.{length}
use lib.Dec.{eqb, leb, ltb}
use borrow.Author.Tests.{leb-true}
use Rattle.text.specs.Bytes.{byte}
use Rattle.text.specs.Reader.{Parse, miss, refuse, got, after, ◌>>=◌, pure, or_none, opt, char}
use Rattle.text.specs.Number.{is_digit, leading_digits, after_digits, value_from, number_from, number}
use Rattle.gsa.specs.Gsa.{item, item_max}

-- a number that is absent or at most `max`
pub data Under (max : ℕ) : Option ℕ → Type 0 where
  nothing : Under max none
  below : {n : ℕ} → n ≤ max → Under max (some n)

-- what was read of `l`, a text `m` being left: no more than there was, and a number within its limit
record Fair (max : ℕ) (l : List ℕ) (a : Option ℕ) (m : List ℕ) : Type 0 where
  eats : length m ≤ length l
  small : Under max a

after-digits : (l : List ℕ) → length (after_digits l) ≤ length l
after-digits [] = omega arith
after-digits (b ∷ l) = by (is_digit b) (after-digits l)
  where
    by : (t : Bool) → length (after_digits l) ≤ length l → length (cond t (after_digits l) (b ∷ l)) ≤ length (b ∷ l)
    by true h = omega arith
    by false h = omega arith

opt-fair : (max : ℕ) (l : List ℕ) {a : Option ℕ} {m : List ℕ} → opt (number max) l ≡ got a m → Fair max l a m
unfolding opt number number_from
opt-fair max l e = by (ltb 0 (length (leading_digits l))) (leb (value_from 0 (leading_digits l)) max) refl e
  where
    absent : {a : Option ℕ} {m : List ℕ} → none ≡ a → l ≡ m → Fair max l a m
    absent f g = record { eats = rw (← g) (omega arith); small = rw (← f) nothing }

    by : (t u : Bool) {a : Option ℕ} {m : List ℕ} → leb (value_from 0 (leading_digits l)) max ≡ u
        → or_none (cond t (cond u (got (value_from 0 (leading_digits l)) (after_digits l)) miss) miss) l ≡ got a m → Fair max l a m
    by true true {a} {m} f e =
        let g : some (value_from 0 (leading_digits l)) ≡ a = cc in
        let h : after_digits l ≡ m = cc in
        record { eats = rw (← h) (after-digits l); small = rw (← g) (below (leb-true (value_from 0 (leading_digits l)) max f)) }
    by true false f e = absent (cc) (cc)
    by false u f e = absent (cc) (cc)

char-eats : (c : ℕ) (l : List ℕ) {a : Unit {0}} {m : List ℕ} → char c l ≡ got a m → length m < length l
unfolding char
char-eats c [] e = let z : ◌≡◌ {A = ℕ} 0 1 = cc in omega arith
char-eats c (b ∷ l) e = by (eqb b c) e
  where
    by : (t : Bool) {a : Unit {0}} {m : List ℕ} → cond t (got tt l) miss ≡ got a m → length m < length (b ∷ l)
    by true {m = m} e = let h : l ≡ m = cc in rw (← h) (omega arith)
    by false e = let z : ◌≡◌ {A = ℕ} 0 1 = cc in omega arith

-- an item eats a byte or more, and its number is within the limit
pub record Eaten (l : List ℕ) (a : Option ℕ) (m : List ℕ) : Type 0 where
  pub eats : length m < length l
  pub small : Under item_max a

pub item-eats : (l : List ℕ) {a : Option ℕ} {m : List ℕ} → item l ≡ got a m → Eaten l a m
unfolding item ◌>>=◌ pure
item-eats l {a} {m} e = by (opt (number item_max) l) refl e
  where
    then : (n : Option ℕ) (l' : List ℕ) (r : Parse (Unit {0})) → char (byte ",") l' ≡ r → Fair item_max l n l'
        → after r (λ _. pure n) ≡ got a m → Eaten l a m
    then n l' miss f h e = let z : ◌≡◌ {A = ℕ} 0 1 = cc in absurd (omega arith)
    then n l' (refuse x) f h e = let z : ◌≡◌ {A = ℕ} 0 1 = cc in absurd (omega arith)
    then n l' (got u k) f h e =
        let g : k ≡ m = cc in
        let i : n ≡ a = cc in
        record { eats = rw (← g) (omega (arith, char-eats (byte ",") l' f, h.eats)); small = rw (← i) h.small }

    by : (r : Parse (Option ℕ)) → opt (number item_max) l ≡ r
        → after r (λ n. char (byte ",") >>= (λ _. pure n)) ≡ got a m → Eaten l a m
    by miss f e = let z : ◌≡◌ {A = ℕ} 0 1 = cc in absurd (omega arith)
    by (refuse x) f e = let z : ◌≡◌ {A = ℕ} 0 1 = cc in absurd (omega arith)
    by (got n l') f e = then n l' (char (byte ",") l') refl (opt-fair item_max l f) e
