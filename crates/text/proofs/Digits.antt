-- What a number's reading does at a digit and where digits end.
use Prim.Native.Nat.{ℕ, ◌+◌, ◌-◌, ◌*◌, ◌≤◌, ◌<◌}
use native.Mathlib.Omega.{arith}
use mathlib.Core.Path.{◌≡◌, ap, sym, ◌∙◌}
use mathlib.Core.Bool.{true, false}
use mathlib.Core.List.{List, [], ◌∷◌}
use lib.ListN.{length, drop, get_or}
use borrow.Author.Tests.{le-leb, lt-leb, lt-ltb}
use Rattle.text.specs.Reader.{miss, got}
use Rattle.text.proofs.Places.{here, ended}
use Rattle.text.specs.Number.{is_digit, leading_digits, value_from, number_from, number}
use Rattle.text.specs.Code.{unit}
use Rattle.text.proofs.Fixed.{unit-digit, unit-none, unit-is}

pub digit-yes : (b : ℕ) → 48 ≤ b → b ≤ 57 → is_digit b ≡ true
digit-yes b h k = simp (le-leb _ _ h, le-leb _ _ k)

-- more digits write no smaller number
pub grows : (n : ℕ) (ds : List ℕ) → n ≤ value_from n ds
grows n [] = omega arith
grows n (b ∷ ds) = omega (arith, grows (n * 10 + (b - 48)) ds)

-- a number's reading goes on from `n` at the place `i` of the text `s`
module _ (max n : ℕ) (s : List ℕ) (i : ℕ) where
  pub number-more : i < length s → is_digit (get_or s i 0) ≡ true
      → number_from max n (drop i s) ≡ number_from max (n * 10 + (get_or s i 0 - 48)) (drop (i + 1) s)
  unfolding number_from
  number-more h e = rw (here s i h, e)

  pub number-stop : i < length s → is_digit (get_or s i 0) ≡ false → n ≤ max → number_from max n (drop i s) ≡ got n (drop i s)
  unfolding number_from
  number-stop h e m = rw (here s i h, e, le-leb n max m)

  pub number-end : length s ≤ i → n ≤ max → number_from max n (drop i s) ≡ got n (drop i s)
  unfolding number_from
  number-end h m = rw (ended s i h, le-leb n max m)

pub number-over : (max n : ℕ) (l : List ℕ) → max < n → number_from max n l ≡ miss
unfolding number_from
number-over max n l h =
    let k : max < value_from n (leading_digits l) = omega (arith, grows n (leading_digits l)) in
    rw (lt-leb _ _ k)

module _ (max : ℕ) (s : List ℕ) (i : ℕ) where
  pub number-first : i < length s → is_digit (get_or s i 0) ≡ true → number max (drop i s) ≡ number_from max 0 (drop i s)
  unfolding number
  number-first h e =
      let k : (l : List ℕ) → 0 < length (get_or s i 0 ∷ l) = λ l. omega arith in
      rw (here s i h, e, lt-ltb _ _ (k (leading_digits (drop (i + 1) s))))

  pub number-none : i < length s → is_digit (get_or s i 0) ≡ false → number max (drop i s) ≡ miss
  unfolding number
  number-none h e = rw (here s i h, e)

  pub number-past : length s ≤ i → number max (drop i s) ≡ miss
  unfolding number
  number-past h = rw (ended s i h)

-- the same by what a byte counts
module _ (max : ℕ) (s : List ℕ) (i : ℕ) (h : i < length s) (d : ℕ) (e : d ≡ unit (get_or s i 0)) where
  unit-here : d ≤ 9 → is_digit (get_or s i 0) ≡ true
  unit-here k = unit-digit (get_or s i 0) (omega (arith, e))

  pub unit-more : (n : ℕ) → d ≤ 9 → number_from max n (drop i s) ≡ number_from max (n * 10 + d) (drop (i + 1) s)
  unit-more n k =
      let z : get_or s i 0 - 48 ≡ d = sym (e ∙ unit-is (get_or s i 0) (unit-here k)) in
      number-more max n s i h (unit-here k) ∙ ap (λ (x : ℕ). number_from max (n * 10 + x) (drop (i + 1) s)) z

  pub unit-stop : (n : ℕ) → 9 < d → n ≤ max → number_from max n (drop i s) ≡ got n (drop i s)
  unit-stop n k m = number-stop max n s i h (unit-none (get_or s i 0) (omega (arith, e))) m

  pub unit-first : d ≤ 9 → number max (drop i s) ≡ number_from max d (drop (i + 1) s)
  unit-first k =
      let z : 0 * 10 + d ≡ d = omega arith in
      number-first max s i h (unit-here k) ∙ unit-more 0 k ∙ ap (λ (x : ℕ). number_from max x (drop (i + 1) s)) z

  pub unit-absent : 9 < d → number max (drop i s) ≡ miss
  unit-absent k = number-none max s i h (unit-none (get_or s i 0) (omega (arith, e)))
