-- A run of digits, byte by byte.
use Prim.Native.Nat.{ℕ, ◌+◌, ◌-◌, ◌*◌, ◌^◌, ◌≤◌, ◌<◌}
use native.Mathlib.Omega.{arith}
use native.Mathlib.Numerals.{add-one}
use native.Mathlib.Nat.{pow-succ', mul-le-mul_left, mul_left_comm, pow-le-pow_right}
use mathlib.Core.Path.{◌≡◌, ap, sym, ◌∙◌}
use mathlib.Core.Bool.{true, false, cond}
use mathlib.Core.List.{List, [], ◌∷◌}
use lib.ListN.{length, drop, get_or}
use lib.Dec.{leb, lit<}
use borrow.Author.Tests.{le-leb, lt-leb}
use Rattle.text.specs.Reader.{Parse, refuse, got, Number}
use Rattle.text.specs.Number.{is_digit, leading_digits, after_digits, value_from}
use Rattle.text.proofs.Places.{here, ended}
use Rattle.text.specs.Code.{unit}
use Rattle.decimal.specs.Code.{Run, run}
use Rattle.text.proofs.Fixed.{unit-digit, unit-none, unit-is}

-- what a run answers, where it has `k` digits in all
abbrev ended-at : ℕ → ℕ → List ℕ → ℕ → Parse Run
ended-at most v l k = cond (leb k most) (got (record { value = v; count = k }) l) (refuse Number)

run-cons : (most v n b : ℕ) (l : List ℕ) → is_digit b ≡ true → run most v n (b ∷ l) ≡ run most (v * 10 + (b - 48)) (n + 1) l
unfolding run
run-cons most v n b l e =
    let z : n + length (b ∷ leading_digits l) ≡ n + 1 + length (leading_digits l) = omega arith in
    rw e (ap (ended-at most (value_from (v * 10 + (b - 48)) (leading_digits l)) (after_digits l)) z)

run-none : (most v n b : ℕ) (l : List ℕ) → is_digit b ≡ false → n ≤ most → run most v n (b ∷ l) ≡ got (record { value = v; count = n }) (b ∷ l)
unfolding run
run-none most v n b l e h =
    let z : n + 0 ≡ n = omega arith in
    rw e (ap (ended-at most v (b ∷ l)) z ∙ rw (le-leb n most h))

run-nil : (most v n : ℕ) → n ≤ most → run most v n [] ≡ got (record { value = v; count = n }) []
unfolding run
run-nil most v n h =
    let z : n + 0 ≡ n = omega arith in
    ap (ended-at most v []) z ∙ rw (le-leb n most h)

run-full : (most v n b : ℕ) (l : List ℕ) → is_digit b ≡ true → n ≡ most → run most v n (b ∷ l) ≡ refuse Number
unfolding run
run-full most v n b l e h =
    let z : most < n + length (b ∷ leading_digits l) = omega arith in
    rw (e, lt-leb _ _ z)

module _ (most v n : ℕ) (s : List ℕ) (i : ℕ) where
  pub run-more : i < length s → {d : ℕ} → d ≡ unit (get_or s i 0) → d ≤ 9 → run most v n (drop i s) ≡ run most (v * 10 + d) (n + 1) (drop (i + 1) s)
  run-more h {d} p k =
      let e = unit-digit (get_or s i 0) (rw p at k) in
      ap (run most v n) (here s i h) ∙ run-cons most v n (get_or s i 0) (drop (i + 1) s) e
      ∙ ap (λ (x : ℕ). run most (v * 10 + x) (n + 1) (drop (i + 1) s)) (sym (unit-is (get_or s i 0) e) ∙ sym p)

  pub run-stop : i < length s → {d : ℕ} → d ≡ unit (get_or s i 0) → 9 < d → n ≤ most → run most v n (drop i s) ≡ got (record { value = v; count = n }) (drop i s)
  run-stop h {d} p k m =
      let e = unit-none (get_or s i 0) (rw p at k) in
      ap (run most v n) (here s i h) ∙ run-none most v n (get_or s i 0) (drop (i + 1) s) e m
      ∙ ap (got (record { value = v; count = n })) (sym (here s i h))

  pub run-over : i < length s → {d : ℕ} → d ≡ unit (get_or s i 0) → d ≤ 9 → n ≡ most → run most v n (drop i s) ≡ refuse Number
  run-over h {d} p k m = ap (run most v n) (here s i h) ∙ run-full most v n (get_or s i 0) (drop (i + 1) s) (unit-digit (get_or s i 0) (rw p at k)) m

  pub run-end : length s ≤ i → n ≤ most → run most v n (drop i s) ≡ got (record { value = v; count = n }) (drop i s)
  run-end h m = ap (run most v n) (ended s i h) ∙ run-nil most v n m ∙ ap (got (record { value = v; count = n })) (sym (ended s i h))

-- a digit more is ten times as much
pub power-more : (w n : ℕ) → w * 10 ^ (n + 1) ≡ 10 * (w * 10 ^ n)
power-more w n = ap (λ (j : ℕ). w * 10 ^ j) (add-one n) ∙ ap (λ (x : ℕ). w * x) (pow-succ' 10 n) ∙ mul_left_comm w 10 (10 ^ n)

pub digit-more : (w n v d : ℕ) → v < w * 10 ^ n → d ≤ 9 → v * 10 + d < w * 10 ^ (n + 1)
digit-more w n v d h k = omega (arith, power-more w n)

pub room : (w n most : ℕ) → n ≤ most → w * 10 ^ n ≤ w * 10 ^ most
room w n most h = mul-le-mul_left w (pow-le-pow_right (lit< tt) h)
