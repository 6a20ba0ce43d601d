-- The float of a decimal that is read is the nearest value of its format: no m * 2 ^ t units with m below 2 ^ prec lies nearer to the
-- exact number. Multiples of the unit that `round` rounds to lie no nearer, since it rounds to the nearest of these; any other value of
-- the format lies below a multiple that is itself at most the quotient. Assumes nothing.
use mathlib.Core.Path.{◌≡◌, refl, sym, ap, ◌∙◌, subst}
use Prim.Native.Nat.{ℕ, suc, ◌+◌, ◌-◌, ◌*◌, ◌/◌, ◌%◌, ◌^◌, ◌≤◌, ◌<◌, compare, Ordering}
use native.Mathlib.Nat.{le_trans, le_of_eq, le_of_lt, mul_comm, mul_assoc, mul_left_comm, mul_right_comm, mul-pos, add-mul, one-mul, suc-mul, mul-le-mul_left, mul-le-mul_right, mod-lt, div-add-mod', le-div_iff_mul-le, zero-mul, mul-one, pow-suc, mul-lt-mul_of_pos_right, lt_of_mul-lt-mul_right, lt_of_lt_of_le}
use native.Mathlib.Omega.{arith}
use mathlib.Core.Bool.{Bool, true, false, not, true≢false}
use mathlib.Core.List.{List}
use mathlib.Core.Option.{some}
use lib.Dec.{T, is_le, compare_is_eq, eqb, ltb, leb→le, nleb→lt, eqb→eq, eqb_refl, lit≤}
use lib.Arith.{lt_of_le-ne}
use lib.Pow.{pow-add, pow_pos, pow_mono}
use lib.Ieee.{Float, nan, inf, fin, Format, binary32, binary64, prec, emax, low, size, nearest, round, neg, fits}
use lib.Ieee.Digits.{size_reaches}
use lib.Ieee.Fits.{two, round-fits}
use lib.Ieee.Exact.{HasValue}
use lib.Ieee.Nearest.{closest}
use lib.Ieee.Order.{drop, kept}
use lib.Ieee.Scale.{grid, overflow, round_val}
use borrow.Author.Tests.{ltb-true, ltb-false}
use Rattle.text.specs.Reader.{got}
use Rattle.decimal.specs.Decimal.{Limits, Decimal, text, short, long}
use Rattle.decimal.specs.Places.{Short, Long, short_of, long_of, float_of, short_decimal, long_decimal}
use Rattle.decimal.proofs.Power.{ten-pos}
use Rattle.decimal.proofs.Exact.{neg-round}
use Rattle.decimal.proofs.Bounds.{Bounded}
use Rattle.decimal.specs.Plain.{Plain}
use Rattle.decimal.proofs.Facts.{From, from}

abbrev Cmp : Ordering → ℕ → ℕ → Type 0
Cmp Ordering.lt a b = a < b
Cmp Ordering.eq a b = a ≡ b
Cmp Ordering.gt a b = b < a

cmp : (a b : ℕ) → Cmp (compare a b) a b
cmp a b = go (compare a b) (leb→le a b) (nleb→lt a b) (eqb→eq a b) (λ (e : a ≡ b). subst (λ (x : ℕ). T (eqb a x)) e (eqb_refl a))
  where
    go : (o : Ordering) → (T (is_le o) → a ≤ b) → (T (not (is_le o)) → b < a) → (T (compare_is_eq o) → a ≡ b) → (a ≡ b → T (compare_is_eq o)) → Cmp o a b
    go Ordering.lt h k e n = lt_of_le-ne (h tt) n
    go Ordering.eq h k e n = e tt
    go Ordering.gt h k e n = k tt

-- x and y differ by at most d
abbrev Within : ℕ → ℕ → ℕ → Type 0
Within x y d = (x ≤ y + d) × (y ≤ x + d)

bit : (q : ℕ) → q % 2 ≤ 1
bit q = omega arith

near-by : (o : Ordering) (q r b : ℕ) → r < b → Cmp o (r * 2) b → Within (nearest q o * b * 2) ((q * b + r) * 2) b
near-by Ordering.lt q r b R h = omega arith
near-by Ordering.eq q r b R h =
    let p = q % 2 in
    let x : (q + p) * b ≡ q * b + p * b = add-mul q p b in
    let y : p * b ≤ 1 * b = mul-le-mul_right b (bit q) in
    let z : 1 * b ≡ b = one-mul b in
    omega arith
near-by Ordering.gt q r b R h = omega (arith, suc-mul q b)

-- the whole number nearest to a / b is off by at most a half
closest-near : (a b : ℕ) → 0 < b → Within (closest a b * b * 2) (a * 2) b
closest-near a b B = subst (λ (x : ℕ). Within (closest a b * b * 2) (x * 2) b) (div-add-mod' a b) (near-by (compare (a % b * 2) b) (a / b) (a % b) b (mod-lt a B) (cmp (a % b * 2) b))

-- how far two numbers are apart
abbrev pub apart : ℕ → ℕ → ℕ
apart x y = (x - y) + (y - x)

beside : (x y n b : ℕ) → Within (x * 2) (n * 2) b → y + b ≤ x → apart x n ≤ apart y n
beside x y n b w h = omega arith

beyond : (x y n b : ℕ) → Within (x * 2) (n * 2) b → x + b ≤ y → apart x n ≤ apart y n
beyond x y n b w h = omega arith

-- no multiple of b lies nearer to n
closest-best : (n b w : ℕ) → 0 < b → apart (closest n b * b) n ≤ apart (w * b) n
closest-best n b w B = by (compare w (closest n b)) (cmp w (closest n b))
  where
    by : (o : Ordering) → Cmp o w (closest n b) → apart (closest n b * b) n ≤ apart (w * b) n
    by Ordering.lt h =
        let g : suc w * b ≤ closest n b * b = mul-le-mul_right b h in
        beside (closest n b * b) (w * b) n b (closest-near n b B) (omega (arith, suc-mul w b))
    by Ordering.eq h = le_of_eq (ap (λ (x : ℕ). apart (x * b) n) (sym h))
    by Ordering.gt h =
        let g : suc (closest n b) * b ≤ w * b = mul-le-mul_right b h in
        beyond (closest n b * b) (w * b) n b (closest-near n b B) (omega (arith, suc-mul (closest n b) b))

below : (y z n x : ℕ) → y ≤ z → z ≤ n → x ≤ apart z n → x ≤ apart y n
below y z n x h k l = omega arith

part : (t j : ℕ) → j ≤ t → t - j + j ≡ t
part t j h = omega arith

in-use : (z p t : ℕ) → 2 ≤ p → t < z - p → p - 1 + (z - p) < z
in-use z p t P h = omega arith

fewer : (p t j : ℕ) → 2 ≤ p → t < j → p + t ≤ p - 1 + j
fewer p t j P h = omega arith

-- the result in units of the smallest value, against any value m * 2 ^ t of the format
pub no-nearer : (f : Format) (a c m t : ℕ) → 0 < c → m < 2 ^ prec f
    → apart (grid f a c * c) (a * 2 ^ low f) ≤ apart (m * 2 ^ t * c) (a * 2 ^ low f)
no-nearer f a c m t C M = by (ltb t (drop (prec f) (a * 2 ^ low f) c)) refl
  where
    at : (w : ℕ) → apart (grid f a c * c) (a * 2 ^ low f) ≤ apart (w * (c * 2 ^ drop (prec f) (a * 2 ^ low f) c)) (a * 2 ^ low f)
    at w =
        let e : grid f a c * c ≡ kept (prec f) (a * 2 ^ low f) c * (c * 2 ^ drop (prec f) (a * 2 ^ low f) c) = simp (mul_assoc, mul_comm, mul_left_comm) in
        le_trans (le_of_eq (ap (λ (x : ℕ). apart x (a * 2 ^ low f)) e))
        (closest-best (a * 2 ^ low f) (c * 2 ^ drop (prec f) (a * 2 ^ low f) c) w (mul-pos C (pow_pos (drop (prec f) (a * 2 ^ low f) c))))

    coarse : drop (prec f) (a * 2 ^ low f) c ≤ t → apart (grid f a c * c) (a * 2 ^ low f) ≤ apart (m * 2 ^ t * c) (a * 2 ^ low f)
    coarse h =
        let i = drop (prec f) (a * 2 ^ low f) c in
        let e : 2 ^ t ≡ 2 ^ (t - i) * 2 ^ i = ap (λ (x : ℕ). 2 ^ x) (sym (part t i h)) ∙ pow-add 2 (t - i) i in
        let g : m * 2 ^ (t - i) * (c * 2 ^ i) ≡ m * (2 ^ (t - i) * 2 ^ i) * c = simp (mul_assoc, mul_comm, mul_left_comm) in
        subst (λ (x : ℕ). apart (grid f a c * c) (a * 2 ^ low f) ≤ apart x (a * 2 ^ low f)) (g ∙ ap (λ (x : ℕ). m * x * c) (sym e)) (at (m * 2 ^ (t - i)))

    fine : t < drop (prec f) (a * 2 ^ low f) c → apart (grid f a c * c) (a * 2 ^ low f) ≤ apart (m * 2 ^ t * c) (a * 2 ^ low f)
    fine h =
        let i = drop (prec f) (a * 2 ^ low f) c in
        let p = prec f in
        let reach : 2 ^ (p - 1 + i) ≤ a * 2 ^ low f / c = size_reaches (a * 2 ^ low f / c) (p - 1 + i) (in-use (size (a * 2 ^ low f / c)) p t (two f) h) in
        let under : 2 ^ (p - 1 + i) * c ≤ a * 2 ^ low f = (le-div_iff_mul-le C).0 reach in
        let low-y : m * 2 ^ t ≤ 2 ^ p * 2 ^ t = mul-le-mul_right (2 ^ t) (le_of_lt M) in
        let high : 2 ^ p * 2 ^ t ≤ 2 ^ (p - 1 + i) = le_trans (le_of_eq (sym (pow-add 2 p t))) (pow_mono (fewer p t i (two f) h)) in
        let y : m * 2 ^ t * c ≤ 2 ^ (p - 1 + i) * c = mul-le-mul_right c (le_trans low-y high) in
        let s : 2 ^ (p - 1) * (c * 2 ^ i) ≡ 2 ^ (p - 1) * 2 ^ i * c = simp (mul_assoc, mul_comm, mul_left_comm) in
        let e : 2 ^ (p - 1) * (c * 2 ^ i) ≡ 2 ^ (p - 1 + i) * c = s ∙ ap (λ (x : ℕ). x * c) (sym (pow-add 2 (p - 1) i)) in
        below (m * 2 ^ t * c) (2 ^ (p - 1 + i) * c) (a * 2 ^ low f) (apart (grid f a c * c) (a * 2 ^ low f)) y under
        (subst (λ (x : ℕ). apart (grid f a c * c) (a * 2 ^ low f) ≤ apart x (a * 2 ^ low f)) e (at (2 ^ (p - 1))))

    by : (u : Bool) → ltb t (drop (prec f) (a * 2 ^ low f) c) ≡ u → apart (grid f a c * c) (a * 2 ^ low f) ≤ apart (m * 2 ^ t * c) (a * 2 ^ low f)
    by true e = fine (ltb-true t (drop (prec f) (a * 2 ^ low f) c) e)
    by false e = coarse (ltb-false t (drop (prec f) (a * 2 ^ low f) c) e)

-- x is the value of the format that lies nearest to a / c, or to -a / c where `minus` says so: the format holds it, it has that sign, zero
-- too, it is so many units of the format's smallest value, and no value of the format lies nearer
pub record Nearest (f : Format) (minus : Bool) (x : Float) (a c : ℕ) : Type 0 where
  pub held : T (fits f x)
  pub units : ℕ
  pub value : HasValue x minus units (2 ^ low f)
  pub none-nearer : (m t : ℕ) → m < 2 ^ prec f → apart (units * c) (a * 2 ^ low f) ≤ apart (m * 2 ^ t * c) (a * 2 ^ low f)

-- it lies no farther off than zero does, so that below 2 ^ emax nothing overflows
under : (f : Format) (a c e : ℕ) → 0 < c → a < 2 ^ e * c → e ≤ emax f → grid f a c < overflow f
under f a c e C h E =
    let n = a * 2 ^ low f in
    let z : 0 * 2 ^ 0 * c ≡ 0 = ap (λ (x : ℕ). x * c) (zero-mul (2 ^ 0)) ∙ zero-mul c in
    let near : apart (grid f a c * c) n ≤ apart 0 n = subst (λ (x : ℕ). apart (grid f a c * c) n ≤ apart x n) z (no-nearer f a c 0 0 C (pow_pos (prec f))) in
    let twice : grid f a c * c ≤ n * 2 = within-twice (grid f a c * c) n near in
    let less : n < 2 ^ e * c * 2 ^ low f = mul-lt-mul_of_pos_right h (pow_pos (low f)) in
    let same : 2 ^ e * c * 2 ^ low f ≡ 2 ^ (e + low f) * c = mul_right_comm (2 ^ e) c (2 ^ low f) ∙ ap (λ (x : ℕ). x * c) (sym (pow-add 2 e (low f))) in
    let most : grid f a c * c < 2 ^ (e + low f) * c * 2 = doubled (grid f a c * c) n (2 ^ (e + low f) * c) twice (subst (λ (x : ℕ). n < x) same less) in
    let one-more : 2 ^ (e + low f) * c * 2 ≡ 2 ^ suc (e + low f) * c = mul_right_comm (2 ^ (e + low f)) c 2 ∙ ap (λ (x : ℕ). x * c) (sym (pow-suc 2 (e + low f))) in
    lt_of_lt_of_le (lt_of_mul-lt-mul_right c (subst (λ (x : ℕ). grid f a c * c < x) one-more most)) (pow_mono (fits-in e (low f) (emax f) E))
  where
    within-twice : (x n : ℕ) → apart x n ≤ apart 0 n → x ≤ n * 2
    within-twice x n h = omega arith

    doubled : (x n y : ℕ) → x ≤ n * 2 → n < y → x < y * 2
    doubled x n y h k = omega arith

    fits-in : (e l m : ℕ) → e ≤ m → suc (e + l) ≤ l + suc m
    fits-in e l m h = omega arith

-- a negation has the other sign
turned-value : (x : Float) (a c : ℕ) → HasValue x false a c → HasValue (neg x) true a c
unfolding neg
turned-value nan a c h = absurd h
turned-value (inf s) a c h = absurd h
turned-value (fin true m e) a c h = absurd (true≢false h.0)
turned-value (fin false m e) a c h = (refl, h.1)

round-value : (f : Format) (minus : Bool) (a c : ℕ) → grid f a c < overflow f → HasValue (round f minus a c) minus (grid f a c) (2 ^ low f)
round-value f false a c h = round_val f a c h
round-value f true a c h =
    subst (λ (x : Float). HasValue x true (grid f a c) (2 ^ low f)) (neg-round f a c) (turned-value (round f false a c) (grid f a c) (2 ^ low f) (round_val f a c h))

pub round-nearest : (f : Format) (minus : Bool) (a c e : ℕ) → 0 < c → a < 2 ^ e * c → e ≤ emax f → Nearest f minus (round f minus a c) a c
round-nearest f minus a c e C h E =
    record {
      held = round-fits f minus a c;
      units = grid f a c;
      value = round-value f minus a c (under f a c e C h E);
      none-nearer = λ m t M. no-nearer f a c m t C M;
    }

below-times : (x y c : ℕ) → x < y → 0 < c → x < y * c
below-times x y c h C = lt_of_lt_of_le h (le_trans (le_of_eq (sym (mul-one y))) (mul-le-mul_left y C))

-- a decimal within the limits, where all its digits write less than 2 ^ e
pub decimal-nearest : (f : Format) (lim : Limits) (d : Decimal) (e : ℕ) → Bounded lim d → 10 ^ lim.all ≤ 2 ^ e → e ≤ emax f → Nearest f d.minus (float_of f d) d.size (10 ^ d.decimals)
decimal-nearest f lim d e b h E =
    let c = 10 ^ d.decimals in
    round-nearest f d.minus d.size c e (ten-pos d.decimals) (below-times d.size (2 ^ e) c (lt_of_lt_of_le b.small h) (ten-pos d.decimals)) E

-- what was read at a place is the decimal that the place's text writes, and no value of the format lies nearer to that than x, which has the
-- text's sign: of minus zero too
pub record ReadNearest {A : Type 0} (lim : Limits) (of : Decimal → A) (l : List ℕ) (a : A) (f : Format) (x : Float) : Type 0 where
  pub decimal : Decimal
  pub written : Plain lim (text l) decimal
  pub same : of decimal ≡ a
  pub nearest : Nearest f decimal.minus x decimal.size (10 ^ decimal.decimals)

read-nearest : {A : Type 0} (lim : Limits) (of : Decimal → A) (value : A → Float) (f : Format) (e : ℕ) (l : List ℕ) {a : A} → From lim of l a
    → ((d : Decimal) → value (of d) ≡ float_of f d) → 10 ^ lim.all ≤ 2 ^ e → e ≤ emax f → ReadNearest lim of l a f (value a)
read-nearest lim of value f e l h v k E =
    let d = h.of in
    let x : float_of f d ≡ value _ = sym (v d) ∙ ap value h.same in
    record {
      decimal = d;
      written = h.written;
      same = h.same;
      nearest = subst (λ (y : Float). Nearest f d.minus y d.size (10 ^ d.decimals)) x (decimal-nearest f lim d e h.known k E);
    }

-- the float of every short and of every long decimal that is read
pub short-read-nearest : (l : List ℕ) {d : Short} {m : List ℕ} → short_decimal l ≡ got (some d) m → ReadNearest short short_of l d binary32 d.value
unfolding short_decimal
short-read-nearest l e = read-nearest short short_of (λ d. d.value) binary32 24 l (from short short_of l e) (λ d. refl) (lit≤ tt) (lit≤ tt)

pub long-read-nearest : (l : List ℕ) {d : Long} {m : List ℕ} → long_decimal l ≡ got (some d) m → ReadNearest long long_of l d binary64 d.value
unfolding long_decimal
long-read-nearest l e = read-nearest long long_of (λ d. d.value) binary64 40 l (from long long_of l e) (λ d. refl) (lit≤ tt) (lit≤ tt)
