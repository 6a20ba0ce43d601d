-- The quotient of two finite floats is rounded once: the result is the value of the format nearest to the exact quotient. Here
-- m * 2 ^ e divided by n * 2 ^ d is (m * up e * down d) / (n * up d * down e). Assumes nothing.
use Prim.Native.Nat.{ℕ, suc, ◌*◌, ◌^◌, ◌≤◌, ◌<◌}
use native.Mathlib.Nat.{le_trans, le_of_eq, lt_of_lt_of_le, mul_comm, mul_assoc, mul_right_comm, mul-pos, mul-one, zero-mul, pow-suc, mul-le-mul_left, mul-lt-mul_of_pos_right, lt_of_mul-lt-mul_right}
use native.Mathlib.Omega.{arith}
use mathlib.Core.Path.{◌≡◌, refl, sym, ap, ◌∙◌, subst}
use mathlib.Core.Bool.{Bool, cond}
use mathlib.Core.List.{List}
use mathlib.Core.Option.{some}
use lib.Dec.{eqb, lit≤}
use lib.IntN.{ℤ}
use lib.Pow.{pow_pos}
use lib.Ieee.{Float, nan, inf, fin, Format, binary32, prec, emax, low, up, down, unlike, round, div}
use lib.Ieee.Fits.{up_pos, down_pos}
use lib.Ieee.Exact.{HasValue}
use borrow.Author.Tests.{ne_eqb}
use Rattle.text.specs.Reader.{got}
use Rattle.decimal.specs.Decimal.{short}
use Rattle.decimal.specs.Places.{Short, short_of, short_decimal}
use Rattle.decimal.proofs.Power.{ten-pos}
use Rattle.decimal.proofs.Facts.{from}
use Rattle.decimal.proofs.Nearest.{Nearest, apart, round-nearest, decimal-nearest}

-- x and y are finite, y is not zero, and no value of the format lies nearer to their quotient than z, which has its sign
pub record Quotient (f : Format) (x y z : Float) : Type 0 where
  pub minus : Bool
  pub other : Bool
  pub m : ℕ
  pub n : ℕ
  pub e : ℤ
  pub d : ℤ
  pub x-is : x ≡ fin minus m e
  pub y-is : y ≡ fin other n d
  pub above : 0 < n
  pub nearest : Nearest f (unlike minus other) z (m * up e * down d) (n * up d * down e)

-- a quotient below 2 ^ k that the format holds
pub div-nearest : (f : Format) (s t : Bool) (m n : ℕ) (e d : ℤ) (k : ℕ) → 0 < n → m * up e * down d < 2 ^ k * (n * up d * down e) → k ≤ emax f
    → Nearest f (unlike s t) (div f (fin s m e) (fin t n d)) (m * up e * down d) (n * up d * down e)
unfolding div
div-nearest f s t m n e d k N h K =
    let a = m * up e * down d in
    let c = n * up d * down e in
    subst (λ (b : Bool). Nearest f (unlike s t) (cond b (cond (eqb m 0) nan (inf (unlike s t))) (round f (unlike s t) a c)) a c)
    (sym (ne_eqb n 0 (λ (z : n ≡ 0). omega (arith, N, z))))
    (round-nearest f (unlike s t) a c k (mul-pos (mul-pos N (up_pos d)) (down_pos e)) h K)

-- what lies nearest to a number below 2 ^ k lies below twice that
small-units : {f : Format} {s : Bool} {x : Float} {a c : ℕ} (k : ℕ) (h : Nearest f s x a c) → 0 < c → a < 2 ^ k → h.units < 2 ^ suc k * 2 ^ low f
small-units {f} {s} {x} {a} {c} k h C b =
    let z : 0 * 2 ^ 0 * c ≡ 0 = ap (λ (y : ℕ). y * c) (zero-mul (2 ^ 0)) ∙ zero-mul c in
    let near : apart (h.units * c) (a * 2 ^ low f) ≤ apart 0 (a * 2 ^ low f) =
    subst (λ (y : ℕ). apart (h.units * c) (a * 2 ^ low f) ≤ apart y (a * 2 ^ low f)) z (h.none-nearer 0 0 (pow_pos (prec f))) in
    let one : h.units ≤ h.units * c = le_trans (le_of_eq (sym (mul-one h.units))) (mul-le-mul_left h.units C) in
    let less : a * 2 ^ low f < 2 ^ k * 2 ^ low f = mul-lt-mul_of_pos_right b (pow_pos (low f)) in
    let twice : 2 ^ k * 2 ^ low f * 2 ≡ 2 ^ suc k * 2 ^ low f = mul_right_comm (2 ^ k) (2 ^ low f) 2 ∙ ap (λ (y : ℕ). y * 2 ^ low f) (sym (pow-suc 2 k)) in
    subst (λ (y : ℕ). h.units < y) twice (most h.units (h.units * c) (a * 2 ^ low f) (2 ^ k * 2 ^ low f) one near less)
  where
    most : (u v n y : ℕ) → u ≤ v → apart v n ≤ apart 0 n → n < y → u < y * 2
    most u v n y p q r = omega arith

-- such a float, divided by one that is at least 1
module _ (f : Format) {s : Bool} {x : Float} {a c : ℕ} (k : ℕ) (h : Nearest f s x a c) (C : 0 < c) (b : a < 2 ^ k) (room : suc k ≤ emax f) where
  pub quotient : (t : Bool) (n : ℕ) (d : ℤ) → 0 < n → down d ≤ n * up d → Quotient f x (fin t n d) (div f x (fin t n d))
  quotient t n d N big = by x h.value
    where
      by : (y : Float) → HasValue y s h.units (2 ^ low f) → Quotient f y (fin t n d) (div f y (fin t n d))
      by nan v = absurd v
      by (inf u) v = absurd v
      by (fin u m e) v =
          let p = 2 ^ suc k in
          let units : m * up e * 2 ^ low f < p * 2 ^ low f * down e =
          subst (λ (w : ℕ). w < p * 2 ^ low f * down e) (sym v.1) (mul-lt-mul_of_pos_right (small-units k h C b) (down_pos e)) in
          let size : m * up e < p * down e =
          lt_of_mul-lt-mul_right (2 ^ low f) (subst (λ (w : ℕ). m * up e * 2 ^ low f < w) (mul_right_comm p (2 ^ low f) (down e)) units) in
          let over : p * down e * down d ≤ p * down e * (n * up d) = mul-le-mul_left (p * down e) big in
          let same : p * down e * (n * up d) ≡ p * (n * up d * down e) = mul_assoc p (down e) (n * up d) ∙ ap (λ (w : ℕ). p * w) (mul_comm (down e) (n * up d)) in
          let below : m * up e * down d < p * (n * up d * down e) =
          lt_of_lt_of_le (mul-lt-mul_of_pos_right size (down_pos d)) (le_trans over (le_of_eq same)) in
          record {
            minus = u;
            other = t;
            m = m;
            n = n;
            e = e;
            d = d;
            x-is = refl;
            y-is = refl;
            above = N;
            nearest = div-nearest f u t m n e d (suc k) N below room;
          }

-- the float of a short decimal that is read, divided by one that is at least 1
pub short-quotient : (l : List ℕ) {v : Short} {r : List ℕ} → short_decimal l ≡ got (some v) r → (t : Bool) (n : ℕ) (d : ℤ) → 0 < n → down d ≤ n * up d
    → Quotient binary32 v.value (fin t n d) (div binary32 v.value (fin t n d))
unfolding short_decimal
short-quotient l e t n d N big =
    let h = from short short_of l e in
    let w = h.of in
    let near = decimal-nearest binary32 short w 24 h.known (lit≤ tt) (lit≤ tt) in
    quotient binary32 24 (subst (λ (x : Short). Nearest binary32 w.minus x.value w.size (10 ^ w.decimals)) h.same near) (ten-pos w.decimals)
    (lt_of_lt_of_le h.known.small (lit≤ tt)) (lit≤ tt) t n d N big
