-- Laws of 10 ^ k. Assumes nothing.
use mathlib.Core.Path.{◌≡◌, refl, sym, ap, ◌∙◌}
use Prim.Native.Nat.{ℕ, zero, suc, ◌+◌, ◌-◌, ◌*◌, ◌^◌, ◌≤◌, ◌<◌, min}
use native.Mathlib.Nat.{pow-succ', pow-le-pow_right, one-le-pow, mul_assoc, mul-lt-mul_of_pos_right}
use lib.Pow.{pow-add}
use native.Mathlib.Numerals.{sub-one}
use native.Mathlib.Omega.{arith}
use lib.Dec.{lit<}

-- ten times the power below
pub ten-times : (k : ℕ) → (k ≡ 0 → ⊥) → 10 * 10 ^ (k - 1) ≡ 10 ^ k
ten-times zero h = absurd (h refl)
ten-times (suc k) h = ap (λ (j : ℕ). 10 * 10 ^ j) (sub-one (suc k)) ∙ sym (pow-succ' 10 k)

pub under : (k j : ℕ) → k ≤ j → 10 ^ k ≤ 10 ^ j
under k j h = pow-le-pow_right (lit< tt) h

pub sum-power : (m n : ℕ) → 10 ^ m * 10 ^ n ≡ 10 ^ (m + n)
sum-power m n = sym (pow-add 10 m n)

pub ten-pos : (k : ℕ) → 0 < 10 ^ k
ten-pos k = one-le-pow k 10 (lit< tt)

-- 10 ^ k of a tenth power's two parts
pub parts : (k n : ℕ) → k ≤ n → 10 ^ k * 10 ^ (n - k) ≡ 10 ^ n
parts k n h = sym (pow-add 10 k (n - k)) ∙ ap (λ (j : ℕ). 10 ^ j) (whole k n h)
  where
    whole : (k n : ℕ) → k ≤ n → k + (n - k) ≡ n
    whole k n h = omega arith

-- minutes w / 10 ^ k below 1000 are fewer than 10 ^ 12 billionths
pub minutes-lt : (w k : ℕ) → w < 1000 * 10 ^ k → k ≤ 9 → w * 10 ^ (9 - k) < 1000000000000
minutes-lt w k h l =
    let p : w * 10 ^ (9 - k) < 1000 * 10 ^ k * 10 ^ (9 - k) = mul-lt-mul_of_pos_right h (ten-pos (9 - k)) in
    let q : 1000 * 10 ^ k * 10 ^ (9 - k) ≡ 1000 * (10 ^ k * 10 ^ (9 - k)) = mul_assoc 1000 (10 ^ k) (10 ^ (9 - k)) in
    let r : 10 ^ k * 10 ^ (9 - k) ≡ 1000000000 = parts k 9 l in
    omega arith

-- the power that pow10 answers, for an exponent up to the ninth
pub capped : {p : ℕ} (k : ℕ) → k ≤ 9 → p ≡ 10 ^ min k 9 → p ≡ 10 ^ k
capped k h e = let m : min k 9 ≡ k = omega arith in e ∙ ap (λ (j : ℕ). 10 ^ j) m
