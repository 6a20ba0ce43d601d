-- The calendar of "Inter gravissimas" by facts that the definition does not have in it: which years are leap years, by divisors; a year's
-- 365 or 366 days; 97 leap years and 146,097 days in any 400 years, since a year's days are those of the year 400 years later. And which
-- dates there are, both ways. Assumes nothing.
use Prim.Native.Nat.{ℕ, zero, suc, ◌+◌, ◌%◌, ◌≤◌}
use native.Mathlib.Omega.{arith}
use mathlib.Core.Path.{◌≡◌, refl, ap, sym, ◌∙◌}
use mathlib.Core.Bool.{Bool, true, false, cond, ◌&&◌}
use mathlib.Core.Option.{Option, none, some}
use lib.Dec.{eqb, leb}
use borrow.Author.Tests.{eqb-true, eqb-false, eq-eqb, leb-true}
use Rattle.fields.specs.Date.{Date, leap, days_in, date_of}
use Rattle.fields.proofs.CalendarDays.{good-day}

-- every fourth year, and of the full centuries every fourth
abbrev pub Leap : ℕ → Type 0
Leap y = (y % 4 ≡ 0) × (y % 100 ≡ 0 → y % 400 ≡ 0)

pub leap-is : (y : ℕ) → leap y ≡ true → Leap y
leap-is y e = by (eqb (y % 100) 0) refl e
  where
    by : (t : Bool) → eqb (y % 100) 0 ≡ t → cond t (eqb (y % 400) 0) (eqb (y % 4) 0) ≡ true → Leap y
    by true f e = let h = eqb-true (y % 400) 0 e in (omega (arith, h), λ g. h)
    by false f e = let h = eqb-true (y % 4) 0 e in (h, λ g. absurd (eqb-false (y % 100) 0 f g))

pub is-leap : (y : ℕ) → Leap y → leap y ≡ true
is-leap y l = by (eqb (y % 100) 0) refl
  where
    by : (t : Bool) → eqb (y % 100) 0 ≡ t → cond t (eqb (y % 400) 0) (eqb (y % 4) 0) ≡ true
    by true f = eq-eqb (y % 400) 0 (l.1 (eqb-true (y % 100) 0 f))
    by false f = eq-eqb (y % 4) 0 l.0

-- the days of the months from the first to the m-th
abbrev pub up_to_month : ℕ → ℕ → ℕ
up_to_month y zero = 0
up_to_month y (suc m) = up_to_month y m + days_in y (suc m)

pub year-days : (y : ℕ) → up_to_month y 12 ≡ cond (leap y) 366 365
year-days y = by (leap y) refl
  where
    by : (t : Bool) → leap y ≡ t → up_to_month y 12 ≡ cond t 366 365
    by true e = rw e
    by false e = rw e

-- the sum of f over so many years from y on
abbrev pub in_years : (ℕ → ℕ) → ℕ → ℕ → ℕ
in_years f y zero = 0
in_years f y (suc n) = f y + in_years f (suc y) n

-- the last year in the place of the first
one-later : (f : ℕ → ℕ) (y n : ℕ) → f y + in_years f (suc y) n ≡ in_years f y n + f (y + n)
one-later f y zero = let e : f (y + 0) ≡ f y = ap f (omega arith) in omega arith
one-later f y (suc n) =
    let h = one-later f (suc y) n in
    let e : f (suc y + n) ≡ f (y + suc n) = ap f (omega arith) in
    omega arith

-- what comes again after p years has one sum over any p years
again : (f : ℕ → ℕ) (p : ℕ) → ((y : ℕ) → f (y + p) ≡ f y) → (y : ℕ) → in_years f y p ≡ in_years f 0 p
again f p h zero = refl
again f p h (suc y) =
    let s = one-later f y p in
    let e = h y in
    let b = again f p h y in
    omega arith

leap-again : (y : ℕ) → leap (y + 400) ≡ leap y
leap-again y =
    let a : (y + 400) % 100 ≡ y % 100 = omega arith in
    let b : (y + 400) % 400 ≡ y % 400 = omega arith in
    let c : (y + 400) % 4 ≡ y % 4 = omega arith in
    rw (a, b, c)

abbrev pub leaps_of : ℕ → ℕ
leaps_of y = cond (leap y) 1 0

abbrev pub days_of : ℕ → ℕ
days_of y = up_to_month y 12

pub four-centuries : (y : ℕ) → in_years leaps_of y 400 ≡ 97
four-centuries y = again leaps_of 400 (λ z. ap (λ (t : Bool). cond t 1 0) (leap-again z)) y

pub days-of-four-centuries : (y : ℕ) → in_years days_of y 400 ≡ 146097
days-of-four-centuries y =
    again days_of 400 (λ z. year-days (z + 400) ∙ ap (λ (t : Bool). cond t 366 365) (leap-again z) ∙ sym (year-days z)) y

-- one of twelve months, and one of its days
abbrev pub InCalendar : ℕ → ℕ → ℕ → Type 0
InCalendar d m y = (1 ≤ m) × (m ≤ 12) × (1 ≤ d) × (d ≤ days_in y m)

pub is-date : (d m y : ℕ) → InCalendar d m y → date_of d m y ≡ some (record { year = y; month = m; day = d })
is-date d m y h = sym (good-day d m y h.0 h.1 h.2 h.3)

pub date-is : (d m y : ℕ) {x : Date} → date_of d m y ≡ some x → InCalendar d m y
date-is d m y {x} = by (leb 1 m) (leb m 12) (leb 1 d) (leb d (days_in y m)) refl refl refl refl
  where
    by : (a b c e : Bool) → leb 1 m ≡ a → leb m 12 ≡ b → leb 1 d ≡ c → leb d (days_in y m) ≡ e
        → cond {A = Option Date} (a && b && c && e) (some (record { year = y; month = m; day = d })) none ≡ some x → InCalendar d m y
    by true true true true f g h i e = (leb-true _ _ f, leb-true _ _ g, leb-true _ _ h, leb-true _ _ i)
    by true true true false f g h i e = let z : ◌≡◌ {A = ℕ} 0 1 = cc in absurd (omega arith)
    by true true false t f g h i e = let z : ◌≡◌ {A = ℕ} 0 1 = cc in absurd (omega arith)
    by true false s t f g h i e = let z : ◌≡◌ {A = ℕ} 0 1 = cc in absurd (omega arith)
    by false r s t f g h i e = let z : ◌≡◌ {A = ℕ} 0 1 = cc in absurd (omega arith)
