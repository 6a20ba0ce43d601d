-- One operation on two values that are not negative is one rounding of the exact result, by whichever fractions the operands are written. Assumes nothing.
use mathlib.Core.Path.{◌≡◌, refl, sym, ap, ◌∙◌, subst}
use Prim.Native.Nat.{ℕ, zero, suc, ◌+◌, ◌-◌, ◌*◌, ◌/◌, ◌%◌, ◌^◌, ◌≤◌, ◌<◌, min, compare}
use native.Mathlib.Nat.{mul-one, mul_comm, mul_assoc, mul_left_comm, mul_right_comm, mul-pos, zero-mul}
use native.Mathlib.Omega.{arith}
use mathlib.Core.Bool.{Bool, true, false, cond, true≢false}
use lib.Dec.{T, eqb, ltb, le→leb, eqb→eq, lit<}
use lib.IntN.{ℤ, pos}
use lib.Ieee.{Float, nan, inf, fin, Format, prec, emax, low, up, down, size, nearest, odd, units, round, neg, div, of_int, in_float}
use lib.Ieee.Fits.{down_pos}
use lib.Ieee.Exact.{HasValue}
use lib.Ieee.Back.{round_whole}
use lib.Ieee.Scale.{round_same}
use lib.Ieee.Positive.{first_pos}
use Rattle.decimal.proofs.Power.{ten-pos, parts, capped}

-- ---- whole numbers up to 2 ^ prec
pub in-float : (f : Format) (n : ℕ) → n ≤ 2 ^ prec f → T (in_float f (pos n))
unfolding in_float
in-float f n h = le→leb n (2 ^ prec f) h

pub whole-value : (f : Format) (n : ℕ) → n ≤ 2 ^ prec f → HasValue (of_int f (pos n)) false n 1
unfolding of_int
whole-value f n h = round_whole f false n h

-- ---- the quotient of a / c and b / d
cross : (x y de dd a c b d : ℕ) → x * c ≡ a * de → y * d ≡ b * dd → x * dd * (b * c) ≡ a * d * (y * de)
cross x y de dd a c b d h k =
    let l : x * dd * (b * c) ≡ x * c * (b * dd) = simp (mul_assoc, mul_comm, mul_left_comm) in
    let r : a * d * (y * de) ≡ a * de * (y * d) = simp (mul_assoc, mul_comm, mul_left_comm) in
    l ∙ ap (λ (z : ℕ). z * (b * dd)) h ∙ ap (λ (z : ℕ). a * de * z) (sym k) ∙ sym r

-- a value above zero has digits
not-zero : (n : ℕ) (g : ℤ) (b d : ℕ) → 0 < b → n * up g * d ≡ b * down g → T (eqb n 0) → ⊥
not-zero n g b d B k t =
    let z : n ≡ 0 = eqb→eq n 0 t in
    let q : n * up g * d ≡ 0 = ap (λ (x : ℕ). x * up g * d) z ∙ ap (λ (x : ℕ). x * d) (zero-mul (up g)) ∙ zero-mul d in
    let p : 0 < b * down g = mul-pos B (down_pos g) in
    omega arith

past : {X : Type 0} (t : Bool) (x y : X) → (T t → ⊥) → cond t x y ≡ y
past true x y h = absurd (h tt)
past false x y h = refl

pub div-at : (f : Format) (x y : Float) (a c b d : ℕ) → 0 < c → 0 < b → 0 < d → HasValue x false a c → HasValue y false b d → div f x y ≡ round f false (a * d) (b * c)
unfolding div
div-at f nan y a c b d C B D h k = absurd h
div-at f (inf s) y a c b d C B D h k = absurd h
div-at f (fin s m e) nan a c b d C B D h k = absurd k
div-at f (fin s m e) (inf t) a c b d C B D h k = absurd k
div-at f (fin true m e) (fin t n g) a c b d C B D h k = absurd (true≢false h.0)
div-at f (fin false m e) (fin true n g) a c b d C B D h k = absurd (true≢false k.0)
div-at f (fin false m e) (fin false n g) a c b d C B D h k =
    past (eqb n 0) (cond (eqb m 0) nan (inf false)) (round f false (m * up e * down g) (n * up g * down e)) (not-zero n g b d B k.1)
    ∙ round_same f false (m * up e * down g) (n * up g * down e) (a * d) (b * c) (mul-pos (digits n g b d B k.1) (down_pos e)) (mul-pos B C) (cross (m * up e) (n * up g) (down e) (down g) a c b d h.1 k.1)
  where
    digits : (n : ℕ) (g : ℤ) (b d : ℕ) → 0 < b → n * up g * d ≡ b * down g → 0 < n * up g
    digits n g b d B k =
        let p : 0 < b * down g = mul-pos B (down_pos g) in
        first_pos (n * up g) d (subst (λ (x : ℕ). 0 < x) (sym k) p)

-- ---- the quotient of two whole numbers that the format counts without a gap: one rounding of the exact quotient
pub div-whole : (f : Format) (a b : ℕ) → a ≤ 2 ^ prec f → 0 < b → b ≤ 2 ^ prec f → div f (of_int f (pos a)) (of_int f (pos b)) ≡ round f false a b
div-whole f a b h B k =
    div-at f (of_int f (pos a)) (of_int f (pos b)) a 1 b 1 (lit< tt) B (lit< tt) (whole-value f a h) (whole-value f b k)
    ∙ ap (λ (z : ℕ). round f false z (b * 1)) (mul-one a)
    ∙ ap (λ (z : ℕ). round f false a z) (mul-one b)

-- ---- a sign: the negation of the nearest value is the nearest value to the negation, of zero too
neg-odd : (d q k l : ℕ) → neg (odd d false q k l) ≡ odd d true q k l
unfolding neg odd
neg-odd d zero k l = refl
neg-odd d (suc q) k l = refl

neg-cond : (t : Bool) (x x' y y' : Float) → neg x ≡ x' → neg y ≡ y' → neg (cond t x y) ≡ cond t x' y'
neg-cond true x x' y y' e f = e
neg-cond false x x' y y' e f = f

pub neg-round : (f : Format) (a c : ℕ) → neg (round f false a c) ≡ round f true a c
unfolding neg round units
neg-round f a c =
    let n = a * 2 ^ low f in
    let k = size (n / c) - prec f in
    let u = c * 2 ^ k in
    let q = nearest (n / u) (compare (n % u * 2) u) in
    neg-cond (ltb (q * 2 ^ k) (2 ^ (low f + suc (emax f)))) (odd (suc (prec f)) false q k (low f)) (odd (suc (prec f)) true q k (low f)) (inf false) (inf true) (neg-odd (suc (prec f)) q k (low f)) refl

-- a whole number and a power of ten that the format holds: one division is one rounding
pub divided : (f : Format) (n k : ℕ) {p : ℕ} → n ≤ 2 ^ prec f → k ≤ 9 → 10 ^ k ≤ 2 ^ prec f → p ≡ 10 ^ min k 9
    → div f (of_int f (pos n)) (of_int f (pos p)) ≡ round f false n (10 ^ k)
divided f n k h j i e =
    ap (λ (x : ℕ). div f (of_int f (pos n)) (of_int f (pos x))) (capped k j e) ∙ div-whole f n (10 ^ k) h (ten-pos k) i

-- digits scaled to billionths are the same fraction, and so the same rounding
pub of-billionths : (f : Format) (minus : Bool) (n k : ℕ) → k ≤ 9 → round f minus (n * 10 ^ (9 - k)) (10 ^ 9) ≡ round f minus n (10 ^ k)
of-billionths f minus n k h =
    let e : n * 10 ^ (9 - k) * 10 ^ k ≡ n * 10 ^ 9 = mul_right_comm n (10 ^ (9 - k)) (10 ^ k) ∙ mul_assoc n (10 ^ k) (10 ^ (9 - k)) ∙ ap (λ (x : ℕ). n * x) (parts k 9 h) in
    round_same f minus (n * 10 ^ (9 - k)) (10 ^ 9) n (10 ^ k) (ten-pos 9) (ten-pos k) e
