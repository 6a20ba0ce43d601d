-- What is known of a decimal that was read: its digits are within the limits, so it is below the powers of ten that they
-- give. Digits write less than a one and as many zeros. Assumes nothing.
use Prim.Native.Nat.{ℕ, ◌+◌, ◌*◌, ◌^◌, ◌≤◌, ◌<◌}
use native.Mathlib.Omega.{arith}
use native.Mathlib.Nat.{mul-le-mul_right}
use mathlib.Core.Path.{◌≡◌, refl, subst}
use mathlib.Core.Bool.{Bool, true, false, cond, ◌&&◌}
use mathlib.Core.List.{List, [], ◌∷◌}
use mathlib.Core.Option.{Option, none, some, map}
use lib.ListN.{length, drop}
use lib.Dec.{leb, ltb, eqb}
use borrow.Author.Tests.{leb-true, ltb-true}
use Rattle.std.specs.Prelude.{Option as Maybe, Some, Ok}
use Rattle.text.specs.Bytes.{byte}
use Rattle.text.specs.Reader.{got}
use Rattle.text.specs.Number.{leading_digits, after_digits, value_from, only_digits}
use Rattle.decimal.specs.Decimal.{Limits, Decimal, without_sign, negative, text, from_comma, fraction, in_limits, within, digits, plain, or_number, place_of, decimal}
use Rattle.text.specs.Answer.{Finds, seen, held_as}
use Rattle.text.proofs.Places.{took}
use Rattle.decimal.specs.Answer.{a_decimal}
use Rattle.decimal.specs.declared.Decimal.{Decimal as CodeDecimal}
use Rattle.decimal.proofs.Power.{under, sum-power}
use Rattle.decimal.proofs.Decimals.{value-lt}

pub record Bounded (lim : Limits) (d : Decimal) : Type 0 where
  pub few : d.decimals ≤ lim.after
  pub fewer : d.decimals < lim.all
  pub small : d.size < 10 ^ lim.all
  pub front : d.size < 10 ^ lim.before * 10 ^ d.decimals

-- two runs of digits write less than a one and as many zeros as both have
both-lt : (v m w n : ℕ) → v < 10 ^ m → w < (v + 1) * 10 ^ n → w < 10 ^ m * 10 ^ n
both-lt v m w n h k = let g : (v + 1) * 10 ^ n ≤ 10 ^ m * 10 ^ n = mul-le-mul_right (10 ^ n) (omega arith) in omega arith

sized : (lim : Limits) (v m w n : ℕ) → 0 < m → v < 10 ^ m → w < (v + 1) * 10 ^ n → m ≤ lim.before → n ≤ lim.after → m + n ≤ lim.all
    → Bounded lim (without_sign w n)
sized lim v m w n z h k a b c =
    let g = both-lt v m w n h k in
    let p = under (m + n) lim.all c in
    let q = sum-power m n in
    let r : 10 ^ m * 10 ^ n ≤ 10 ^ lim.before * 10 ^ n = mul-le-mul_right (10 ^ n) (under m lim.before a) in
    record { few = b; fewer = omega arith; small = omega arith; front = omega arith }

pub record Fit (lim : Limits) (m n : ℕ) : Type 0 where
  pub before : m ≤ lim.before
  pub after : n ≤ lim.after
  pub all : m + n ≤ lim.all

pub fitting : (lim : Limits) (m n : ℕ) → in_limits lim m n ≡ true → Fit lim m n
fitting lim m n e = by (leb m lim.before) (leb n lim.after) (leb (m + n) lim.all) refl refl refl e
  where
    by : (t u v : Bool) → leb m lim.before ≡ t → leb n lim.after ≡ u → leb (m + n) lim.all ≡ v → (t && u && v) ≡ true → Fit lim m n
    by true true true e f g h = record { before = leb-true _ _ e; after = leb-true _ _ f; all = leb-true _ _ g }
    by true true false e f g h = let y : ◌≡◌ {A = ℕ} 0 1 = cc in absurd (omega arith)
    by true false v e f g h = let y : ◌≡◌ {A = ℕ} 0 1 = cc in absurd (omega arith)
    by false u v e f g h = let y : ◌≡◌ {A = ℕ} 0 1 = cc in absurd (omega arith)

-- the digits after the point write no more than their count allows
record Tail (l : List ℕ) (es : List ℕ) : Type 0 where
  lt : (v : ℕ) → value_from v es < (v + 1) * 10 ^ length es

tail : (l es : List ℕ) → fraction l ≡ some es → Tail l es
tail [] es e = let h : [] ≡ es = cc in subst (λ (x : List ℕ). Tail [] x) h (record { lt = λ v. omega arith })
tail (b ∷ l) es e = by (eqb b (byte ".") && only_digits l) e
  where
    by : (t : Bool) → cond {A = Option (List ℕ)} t (some (leading_digits l)) none ≡ some es → Tail (b ∷ l) es
    by true e = let h : leading_digits l ≡ es = cc in subst (λ (x : List ℕ). Tail (b ∷ l) x) h (record { lt = λ v. value-lt v l })
    by false e = let y : ◌≡◌ {A = ℕ} 0 1 = cc in absurd (omega arith)

digits-bounded : (lim : Limits) (t : List ℕ) {d : Decimal} → digits lim t ≡ some d → Bounded lim d
digits-bounded lim t {d} e = by (ltb 0 (length (leading_digits t))) (fraction (after_digits t)) refl refl e
  where
    in-limits : (es : List ℕ) (u : Bool) → in_limits lim (length (leading_digits t)) (length es) ≡ u → 0 < length (leading_digits t) → fraction (after_digits t) ≡ some es
        → cond {A = Option Decimal} u (some (without_sign (value_from (value_from 0 (leading_digits t)) es) (length es))) none ≡ some d → Bounded lim d
    in-limits es true f z g e =
        let h : without_sign (value_from (value_from 0 (leading_digits t)) es) (length es) ≡ d = cc in
        let k = fitting lim (length (leading_digits t)) (length es) f in
        subst (λ (x : Decimal). Bounded lim x) h
        (sized lim (value_from 0 (leading_digits t)) (length (leading_digits t)) (value_from (value_from 0 (leading_digits t)) es) (length es) z
        (omega (arith, value-lt 0 t)) ((tail (after_digits t) es g).lt (value_from 0 (leading_digits t))) k.before k.after k.all)
    in-limits es false f z g e = let y : ◌≡◌ {A = ℕ} 0 1 = cc in absurd (omega arith)

    by : (u : Bool) (f : Option (List ℕ)) → ltb 0 (length (leading_digits t)) ≡ u → fraction (after_digits t) ≡ f
        → cond u (within lim (leading_digits t) f) none ≡ some d → Bounded lim d
    by true none g h e = let y : ◌≡◌ {A = ℕ} 0 1 = cc in absurd (omega arith)
    by true (some es) g h e = in-limits es (in_limits lim (length (leading_digits t)) (length es)) refl (ltb-true _ _ g) h e
    by false f g h e = let y : ◌≡◌ {A = ℕ} 0 1 = cc in absurd (omega arith)

-- a sign changes none of it
plain-bounded : (lim : Limits) (t : List ℕ) {d : Decimal} → plain lim t ≡ some d → Bounded lim d
plain-bounded lim [] e = let y : ◌≡◌ {A = ℕ} 0 1 = cc in absurd (omega arith)
plain-bounded lim (b ∷ t) {d} e = by (eqb b (byte "-")) e
  where
    behind : (o : Option Decimal) → digits lim t ≡ o → map negative o ≡ some d → Bounded lim d
    behind none f e = let y : ◌≡◌ {A = ℕ} 0 1 = cc in absurd (omega arith)
    behind (some d') f e =
        let h : negative d' ≡ d = cc in
        let k = digits-bounded lim t f in
        subst (λ (x : Decimal). Bounded lim x) h (record { few = k.few; fewer = k.fewer; small = k.small; front = k.front })

    by : (u : Bool) → cond u (map negative (digits lim t)) (digits lim (b ∷ t)) ≡ some d → Bounded lim d
    by true e = behind (digits lim t) refl e
    by false e = digits-bounded lim (b ∷ t) e

-- a decimal that a place holds is within the limits, if each that `read` reads is
held-by : (lim : Limits) (read : List ℕ → Option Decimal) → ((t : List ℕ) (d : Decimal) → read t ≡ some d → Bounded lim d)
    → (l : List ℕ) {d : Decimal} {m : List ℕ} → place_of read l ≡ got (some d) m → Bounded lim d
held-by lim read h l {d} {m} e = by (eqb (length (text l)) 0) e
  where
    plainly : (o : Option Decimal) → read (text l) ≡ o → or_number o (from_comma l) ≡ got (some d) m → Bounded lim d
    plainly none f e = let y : ◌≡◌ {A = ℕ} 0 1 = cc in absurd (omega arith)
    plainly (some d') f e =
        let g : d' ≡ d = cc in
        subst (λ (x : Decimal). Bounded lim x) g (h (text l) d' f)

    by : (t : Bool) → cond t (got none (from_comma l)) (or_number (read (text l)) (from_comma l)) ≡ got (some d) m → Bounded lim d
    by true e = let y : ◌≡◌ {A = ℕ} 0 1 = cc in absurd (omega arith)
    by false e = plainly (read (text l)) refl e

pub bounded : (lim : Limits) (l : List ℕ) {d : Decimal} {m : List ℕ} → decimal lim l ≡ got (some d) m → Bounded lim d
unfolding decimal
bounded lim l e = held-by lim (plain lim) (λ t d. plain-bounded lim t) l e

-- the same of the code's answers
pub kept : {s : List ℕ} {at p : ℕ} (lim : Limits) {o : Maybe CodeDecimal} {d : CodeDecimal} → Finds s at (decimal lim) (seen (held_as a_decimal)) (Ok (o, p)) → o ≡ Some d → Bounded lim (a_decimal d)
kept {s} {at} {p} lim {d = d} t e = let u : Finds s at (decimal lim) (seen (held_as a_decimal)) (Ok (Some d, p)) = rw e at t in bounded lim (drop at s) (took u.reads refl).reads
