-- A decimal place without its sign, part by part. Assumes nothing.
use Prim.Native.Nat.{ℕ, ◌+◌, ◌-◌, ◌*◌, ◌^◌, ◌≤◌, ◌<◌, min}
use native.Mathlib.Omega.{arith}
use native.Mathlib.Nat.{mul_assoc, mul_comm, mul_left_comm, mul-le-mul_right}
use mathlib.Core.Path.{◌≡◌, refl, ap, sym, ◌∙◌}
use mathlib.Core.Bool.{Bool, true, false, cond, ◌&&◌}
use mathlib.Core.Logic.{◌⊎◌, inl, inr}
use mathlib.Core.List.{List, [], ◌∷◌}
use mathlib.Core.Option.{Option, none, some}
use lib.ListN.{length, drop}
use lib.Dec.{leb, ltb, eqb}
use borrow.Author.Tests.{le-leb, lt-ltb, leb-true, leb-false, ne_eqb, eqb-true, ltb-true, ltb-false}
use Rattle.text.specs.Reader.{Parse, miss, refuse, got, char, Number}
use Rattle.text.specs.Placed.{Reads}
use Rattle.text.specs.Answer.{faulted}
use Rattle.text.specs.declared.Fault.{Fault}
use Rattle.text.specs.declared.Fault.TheVariants.{NoMatch, UnknownType, Number as BadNumber, BadTime}
use Rattle.text.proofs.Places.{missed, barred}
use Rattle.text.specs.Number.{is_digit, leading_digits, after_digits, value_from, only_digits}
use Rattle.text.proofs.Fixed.{digit-top}
use Rattle.decimal.specs.Decimal.{Limits, Decimal, without_sign, text, from_comma, fraction, in_limits, within, or_number}
use Rattle.decimal.specs.Code.{Run, run, at_end, unsigned_place}
use Rattle.decimal.proofs.Power.{under, sum-power}
use Rattle.decimal.proofs.Runs.{power-more}

comma-none : (b : ℕ) → eqb b 44 ≡ true → is_digit b ≡ false
comma-none b e = ap is_digit (eqb-true b 44 e)

-- the text of a place and its digits
pub text-digits : (l : List ℕ) → leading_digits (text l) ≡ leading_digits l
text-digits [] = refl
text-digits (b ∷ l) = by (eqb b 44) refl (text-digits l)
  where
    by : (t : Bool) → eqb b 44 ≡ t → leading_digits (text l) ≡ leading_digits l → leading_digits (cond t [] (b ∷ text l)) ≡ leading_digits (b ∷ l)
    by true e h = sym (ap (λ (u : Bool). cond u (b ∷ leading_digits l) []) (comma-none b e))
    by false e h = ap (λ (x : List ℕ). cond (is_digit b) (b ∷ x) []) h

pub text-after : (l : List ℕ) → after_digits (text l) ≡ text (after_digits l)
text-after [] = refl
text-after (b ∷ l) = by (eqb b 44) (is_digit b) refl refl (text-after l)
  where
    by : (t u : Bool) → eqb b 44 ≡ t → is_digit b ≡ u → after_digits (text l) ≡ text (after_digits l)
        → after_digits (cond t [] (b ∷ text l)) ≡ text (cond u (after_digits l) (b ∷ l))
    by true true e f h = let z : true ≡ false = sym f ∙ comma-none b e in let y : ◌≡◌ {A = ℕ} 0 1 = cc in absurd (omega arith)
    by true false e f h = sym (ap (λ (t : Bool). cond t [] (b ∷ text l)) e)
    by false true e f h = ap (λ (u : Bool). cond u (after_digits (text l)) (b ∷ text l)) f ∙ h
    by false false e f h =
        ap (λ (u : Bool). cond u (after_digits (text l)) (b ∷ text l)) f ∙ sym (ap (λ (t : Bool). cond t [] (b ∷ text l)) e)

pub past-after : (l : List ℕ) → from_comma (after_digits l) ≡ from_comma l
past-after [] = refl
past-after (b ∷ l) = by (eqb b 44) (is_digit b) refl refl (past-after l)
  where
    by : (t u : Bool) → eqb b 44 ≡ t → is_digit b ≡ u → from_comma (after_digits l) ≡ from_comma l
        → from_comma (cond u (after_digits l) (b ∷ l)) ≡ cond t (b ∷ l) (from_comma l)
    by true true e f h = let z : true ≡ false = sym f ∙ comma-none b e in let y : ◌≡◌ {A = ℕ} 0 1 = cc in absurd (omega arith)
    by true false e f h = ap (λ (t : Bool). cond t (b ∷ l) (from_comma l)) e
    by false true e f h = h
    by false false e f h = ap (λ (t : Bool). cond t (b ∷ l) (from_comma l)) e

-- at a comma or the end the text is empty, elsewhere it is not
pub end-text : (l : List ℕ) → at_end l ≡ true → text l ≡ []
end-text [] e = refl
end-text (b ∷ l) e = ap (λ (t : Bool). cond t [] (b ∷ text l)) e

pub end-past : (l : List ℕ) → at_end l ≡ true → from_comma l ≡ l
end-past [] e = refl
end-past (b ∷ l) e = ap (λ (t : Bool). cond t (b ∷ l) (from_comma l)) e

pub more-text : (l : List ℕ) → at_end l ≡ false → length (text l) ≡ 0 → ⊥
more-text [] e z = let y : ◌≡◌ {A = ℕ} 0 1 = cc in omega arith
more-text (b ∷ l) e z = let h : length (b ∷ text l) ≡ 0 = sym (ap (λ (t : Bool). length (cond t [] (b ∷ text l))) e) ∙ z in omega arith

-- what the digits before the point and what stands after them decide
abbrev decided : Limits → List ℕ → Option (List ℕ) → List ℕ → Parse (Option Decimal)
decided lim ds f p = or_number (cond (ltb 0 (length ds)) (within lim ds f) none) p

pub absent : (lim : Limits) (l : List ℕ) → at_end l ≡ true → unsigned_place lim l ≡ got none l
unfolding unsigned_place
absent lim l e = rw (end-text l e, end-past l e)

present : (lim : Limits) (l : List ℕ) → at_end l ≡ false → unsigned_place lim l ≡ decided lim (leading_digits l) (fraction (text (after_digits l))) (from_comma (after_digits l))
unfolding unsigned_place
present lim l e =
    ap (λ (t : Bool). cond t (got none (from_comma l)) (decided lim (leading_digits (text l)) (fraction (after_digits (text l))) (from_comma l))) (ne_eqb _ _ (more-text l e))
    ∙ ap (λ (ds : List ℕ). decided lim ds (fraction (after_digits (text l))) (from_comma l)) (text-digits l)
    ∙ ap (λ (t : List ℕ). decided lim (leading_digits l) (fraction t) (from_comma l)) (text-after l)
    ∙ ap (λ (p : List ℕ). decided lim (leading_digits l) (fraction (text (after_digits l))) p) (sym (past-after l))

module _ (lim : Limits) (ds : List ℕ) (f : Option (List ℕ)) (p : List ℕ) where
  no-front : length ds ≡ 0 → decided lim ds f p ≡ refuse Number
  no-front e = ap (λ (n : ℕ). or_number (cond (ltb 0 n) (within lim ds f) none) p) e

  no-back : f ≡ none → decided lim ds f p ≡ refuse Number
  no-back e = ap (λ (g : Option (List ℕ)). decided lim ds g p) e ∙ by (ltb 0 (length ds))
    where
      by : (t : Bool) → or_number (cond {A = Option Decimal} t none none) p ≡ refuse Number
      by true = refl
      by false = refl

  unfit : (es : List ℕ) → f ≡ some es → in_limits lim (length ds) (length es) ≡ false → decided lim ds f p ≡ refuse Number
  unfit es e h =
      ap (λ (g : Option (List ℕ)). decided lim ds g p) e
      ∙ ap (λ (t : Bool). or_number (cond (ltb 0 (length ds)) (cond t (some (without_sign (value_from (value_from 0 ds) es) (length es))) none) none) p) h
      ∙ by (ltb 0 (length ds))
    where
      by : (t : Bool) → or_number (cond {A = Option Decimal} t none none) p ≡ refuse Number
      by true = refl
      by false = refl

  good : (es : List ℕ) → f ≡ some es → 0 < length ds → in_limits lim (length ds) (length es) ≡ true
      → decided lim ds f p ≡ got (some (without_sign (value_from (value_from 0 ds) es) (length es))) p
  good es e k h =
      ap (λ (g : Option (List ℕ)). decided lim ds g p) e
      ∙ ap (λ (t : Bool). or_number (cond t (within lim ds (some es)) none) p) (lt-ltb 0 (length ds) k)
      ∙ ap (λ (t : Bool). or_number (cond t (some (without_sign (value_from (value_from 0 ds) es) (length es))) none) p) h

module _ (lim : Limits) (m n : ℕ) where
  pub fit : m ≤ lim.before → n ≤ lim.after → m + n ≤ lim.all → in_limits lim m n ≡ true
  fit h k j = rw (le-leb _ _ h, le-leb _ _ k, le-leb _ _ j)

  not-fit : (m ≤ lim.before → n ≤ lim.after → m + n ≤ lim.all → ⊥) → in_limits lim m n ≡ false
  not-fit h = by (leb m lim.before) (leb n lim.after) (leb (m + n) lim.all) refl refl refl
    where
      by : (t u v : Bool) → leb m lim.before ≡ t → leb n lim.after ≡ u → leb (m + n) lim.all ≡ v → (t && u && v) ≡ false
      by true true true e f g = absurd (h (leb-true _ _ e) (leb-true _ _ f) (leb-true _ _ g))
      by true true false e f g = refl
      by true false v e f g = refl
      by false u v e f g = refl

-- what a run of digits says
pub record Ran (most value : ℕ) (l : List ℕ) (v n : ℕ) (m : List ℕ) : Type 0 where
  pub few : length (leading_digits l) ≤ most
  pub value-is : v ≡ value_from value (leading_digits l)
  pub count-is : n ≡ length (leading_digits l)
  pub rest-is : m ≡ after_digits l

pub ran-got : (most value : ℕ) {v n : ℕ} {m : List ℕ} (l : List ℕ) → run most value 0 l ≡ got (record { value = v; count = n }) m → Ran most value l v n m
unfolding run
ran-got most value {v} {n} {m} l e = by (leb (0 + length (leading_digits l)) most) refl e
  where
    by : (t : Bool) → leb (0 + length (leading_digits l)) most ≡ t
        → cond {A = Parse Run} t (got (record { value = value_from value (leading_digits l); count = 0 + length (leading_digits l) }) (after_digits l)) (refuse Number) ≡ got (record { value = v; count = n }) m
        → Ran most value l v n m
    by true f e =
        let r : ◌≡◌ {A = Run} (record { value = value_from value (leading_digits l); count = 0 + length (leading_digits l) }) (record { value = v; count = n }) = cc in
        let c : 0 + length (leading_digits l) ≡ n = ap (λ (x : Run). x.count) r in
        let k : 0 + length (leading_digits l) ≤ most = leb-true _ _ f in
        let q : after_digits l ≡ m = cc in
        record { few = omega arith; value-is = sym (ap (λ (x : Run). x.value) r); count-is = omega arith; rest-is = sym q }
    by false f e = let y : ◌≡◌ {A = ℕ} 0 1 = cc in absurd (omega arith)

pub ran-over : (most value : ℕ) (l : List ℕ) → run most value 0 l ≡ refuse Number → most < length (leading_digits l)
unfolding run
ran-over most value l e = by (leb (0 + length (leading_digits l)) most) refl e
  where
    by : (t : Bool) → leb (0 + length (leading_digits l)) most ≡ t
        → cond {A = Parse Run} t (got (record { value = value_from value (leading_digits l); count = 0 + length (leading_digits l) }) (after_digits l)) (refuse Number) ≡ refuse Number
        → most < length (leading_digits l)
    by true f e = let y : ◌≡◌ {A = ℕ} 0 1 = cc in absurd (omega arith)
    by false f e = let k : most < 0 + length (leading_digits l) = leb-false _ _ f in omega arith

-- a run that finds nothing is too long, and ends in no other fault
run-ends : (most value : ℕ) (l : List ℕ) (C : Type 0) → (run most value 0 l ≡ refuse Number → C) → ((r : Run) (m : List ℕ) → run most value 0 l ≡ got r m → C) → C
unfolding run
run-ends most value l C over found = by (leb (0 + length (leading_digits l)) most) refl
  where
    by : (t : Bool) → leb (0 + length (leading_digits l)) most ≡ t → C
    by true e = found (record { value = value_from value (leading_digits l); count = 0 + length (leading_digits l) }) (after_digits l) (rw e)
    by false e = over (rw e)

pub run-fault : {s : List ℕ} {at : ℕ} (most value : ℕ) (e : Fault) → Reads s at (run most value 0) (faulted e) → (run most value 0 (drop at s) ≡ refuse Number) × (e ≡ BadNumber)
run-fault {s} {at} most value e t =
    run-ends most value (drop at s) ((run most value 0 (drop at s) ≡ refuse Number) × (e ≡ BadNumber))
    (λ h. (h, by e t h))
    (λ r m h. absurd (not-got e t h))
  where
    not-got : (e : Fault) {r : Run} {m : List ℕ} → Reads s at (run most value 0) (faulted e) → run most value 0 (drop at s) ≡ got r m → ⊥
    not-got NoMatch t h = let g = missed t refl in let y : ◌≡◌ {A = ℕ} 0 1 = cc in omega arith
    not-got UnknownType t h = let g = barred t refl in let y : ◌≡◌ {A = ℕ} 0 1 = cc in omega arith
    not-got BadNumber t h = let g = barred t refl in let y : ◌≡◌ {A = ℕ} 0 1 = cc in omega arith
    not-got BadTime t h = let g = barred t refl in let y : ◌≡◌ {A = ℕ} 0 1 = cc in omega arith

    by : (e : Fault) → Reads s at (run most value 0) (faulted e) → run most value 0 (drop at s) ≡ refuse Number → e ≡ BadNumber
    by NoMatch t h = let g = missed t refl in let y : ◌≡◌ {A = ℕ} 0 1 = cc in absurd (omega arith)
    by UnknownType t h = let g = barred t refl in let y : ◌≡◌ {A = ℕ} 0 1 = cc in absurd (omega arith)
    by BadNumber t h = refl
    by BadTime t h = let g = barred t refl in let y : ◌≡◌ {A = ℕ} 0 1 = cc in absurd (omega arith)

-- digits write less than a one and as many zeros
pub value-lt : (n : ℕ) (l : List ℕ) → value_from n (leading_digits l) < (n + 1) * 10 ^ length (leading_digits l)
value-lt n [] = omega arith
value-lt n (b ∷ l) = by (is_digit b) refl (value-lt (n * 10 + (b - 48)) l)
  where
    by : (t : Bool) → is_digit b ≡ t → value_from (n * 10 + (b - 48)) (leading_digits l) < (n * 10 + (b - 48) + 1) * 10 ^ length (leading_digits l)
        → value_from n (cond t (b ∷ leading_digits l) []) < (n + 1) * 10 ^ length (cond t (b ∷ leading_digits l) [])
    by true e h =
        let k = digit-top b e in
        let w : n * 10 + (b - 48) + 1 ≤ (n + 1) * 10 = omega arith in
        let g : (n * 10 + (b - 48) + 1) * 10 ^ length (leading_digits l) ≤ (n + 1) * 10 * 10 ^ length (leading_digits l) = mul-le-mul_right (10 ^ length (leading_digits l)) w in
        let q : length (b ∷ leading_digits l) ≡ length (leading_digits l) + 1 = omega arith in
        let r : (n + 1) * 10 ^ length (b ∷ leading_digits l) ≡ 10 * ((n + 1) * 10 ^ length (leading_digits l)) = ap (λ (j : ℕ). (n + 1) * 10 ^ j) q ∙ power-more (n + 1) (length (leading_digits l)) in
        let u : (n + 1) * 10 * 10 ^ length (leading_digits l) ≡ 10 * ((n + 1) * 10 ^ length (leading_digits l)) = simp (mul_assoc, mul_comm, mul_left_comm) in
        omega arith
    by false e h = omega arith

pub ran-lt : {most value v n : ℕ} {l m : List ℕ} → Ran most value l v n m → v < (value + 1) * 10 ^ n
ran-lt {value = value} {l = l} r = rw (r.value-is, r.count-is) (value-lt value l)

-- there is room for the digits that may follow
pub room-after : (v m n all : ℕ) → v < 10 ^ m → m + n ≤ all → all ≤ 19 → (v + 1) * 10 ^ n ≤ 10000000000000000000
room-after v m n all h k j =
    let g : (v + 1) * 10 ^ n ≤ 10 ^ m * 10 ^ n = mul-le-mul_right (10 ^ n) (omega arith) in
    let p : 10 ^ (m + n) ≤ 10 ^ 19 = under (m + n) 19 (omega arith) in
    let q = sum-power m n in
    omega arith

-- the cases of a place where a text stands
pub over : (lim : Limits) (l : List ℕ) → at_end l ≡ false → lim.before < length (leading_digits l) → unsigned_place lim l ≡ refuse Number
over lim l h k = present lim l h ∙ by (fraction (text (after_digits l))) refl
  where
    by : (f : Option (List ℕ)) → fraction (text (after_digits l)) ≡ f → decided lim (leading_digits l) (fraction (text (after_digits l))) (from_comma (after_digits l)) ≡ refuse Number
    by none e = no-back lim (leading_digits l) _ _ e
    by (some es) e = unfit lim (leading_digits l) _ _ es e (not-fit lim (length (leading_digits l)) (length es) (λ a b c. omega arith))

point : (m l : List ℕ) {u : Unit {0}} → char 46 m ≡ got u l → m ≡ 46 ∷ l
unfolding char
point [] l e = let y : ◌≡◌ {A = ℕ} 0 1 = cc in absurd (omega arith)
point (b ∷ k) l {u} e = by (eqb b 46) refl e
  where
    by : (t : Bool) → eqb b 46 ≡ t → cond {A = Parse (Unit {0})} t (got tt k) miss ≡ got u l → b ∷ k ≡ 46 ∷ l
    by true f e = let h = eqb-true b 46 f in let q : k ≡ l = cc in cc
    by false f e = let y : ◌≡◌ {A = ℕ} 0 1 = cc in absurd (omega arith)

no-point : (m : List ℕ) → at_end m ≡ false → char 46 m ≡ miss → fraction (text m) ≡ none
unfolding char
no-point [] h e = let y : ◌≡◌ {A = ℕ} 0 1 = cc in absurd (omega arith)
no-point (b ∷ k) h e =
    ap (λ (t : Bool). fraction (cond t [] (b ∷ text k))) h ∙ by (eqb b 46) refl e
  where
    by : (t : Bool) → eqb b 46 ≡ t → cond {A = Parse (Unit {0})} t (got tt k) miss ≡ miss → cond {A = Option (List ℕ)} (t && only_digits (text k)) (some (leading_digits (text k))) none ≡ none
    by true f e = let y : ◌≡◌ {A = ℕ} 0 1 = cc in absurd (omega arith)
    by false f e = refl

module _ (lim : Limits) (l m : List ℕ) (h : at_end l ≡ false) {v n : ℕ} (r : Ran lim.before 0 l v n m) where
  here-decided : unsigned_place lim l ≡ decided lim (leading_digits l) (fraction (text m)) (from_comma m)
  here-decided = present lim l h ∙ ap (λ (k : List ℕ). decided lim (leading_digits l) (fraction (text k)) (from_comma k)) (sym r.rest-is)

  pub case-zero : n ≡ 0 → unsigned_place lim l ≡ refuse Number
  case-zero e = here-decided ∙ no-front lim (leading_digits l) (fraction (text m)) (from_comma m) (sym r.count-is ∙ e)

  pub case-other : at_end m ≡ false → char 46 m ≡ miss → unsigned_place lim l ≡ refuse Number
  case-other e f = here-decided ∙ no-back lim (leading_digits l) (fraction (text m)) (from_comma m) (no-point m e f)

  pub case-whole : (n ≡ 0 → ⊥) → lim.before ≤ lim.all → at_end m ≡ true → unsigned_place lim l ≡ got (some (without_sign v 0)) m
  case-whole z k e =
      let c = r.count-is in
      let w = r.few in
      here-decided
      ∙ good lim (leading_digits l) _ _ [] (ap fraction (end-text m e)) (omega arith) (fit lim (length (leading_digits l)) 0 w (omega arith) (omega arith))
      ∙ ap (λ (x : ℕ). got (some (without_sign x 0)) (from_comma m)) (sym r.value-is)
      ∙ ap (got (some (without_sign v 0))) (end-past m e)

  module _ (k : List ℕ) {u : Unit {0}} (p : char 46 m ≡ got u k) where
    -- after the point
    there-decided : unsigned_place lim l ≡ decided lim (leading_digits l) (cond (ltb 0 (length (leading_digits k)) && eqb (length (text (after_digits k))) 0) (some (leading_digits k)) none) (from_comma (after_digits k))
    there-decided =
        here-decided
        ∙ ap (λ (x : List ℕ). decided lim (leading_digits l) (fraction (text x)) (from_comma x)) (point m k p)
        ∙ ap (λ (x : List ℕ). decided lim (leading_digits l) (cond (ltb 0 (length x) && eqb (length (after_digits (text k))) 0) (some x) none) (from_comma k)) (text-digits k)
        ∙ ap (λ (x : List ℕ). decided lim (leading_digits l) (cond (ltb 0 (length (leading_digits k)) && eqb (length x) 0) (some (leading_digits k)) none) (from_comma k)) (text-after k)
        ∙ ap (λ (x : List ℕ). decided lim (leading_digits l) (cond (ltb 0 (length (leading_digits k)) && eqb (length (text (after_digits k))) 0) (some (leading_digits k)) none) x) (sym (past-after k))

    pub case-long : (lim.after < length (leading_digits k)) ⊎ (lim.all < n + length (leading_digits k)) → unsigned_place lim l ≡ refuse Number
    case-long o = there-decided ∙ by (ltb 0 (length (leading_digits k)) && eqb (length (text (after_digits k))) 0)
      where
        no : (lim.after < length (leading_digits k)) ⊎ (lim.all < n + length (leading_digits k)) → length (leading_digits k) ≤ lim.after → length (leading_digits l) + length (leading_digits k) ≤ lim.all → ⊥
        no (inl x) b c = omega arith
        no (inr x) b c = let y = r.count-is in omega arith

        by : (t : Bool) → decided lim (leading_digits l) (cond t (some (leading_digits k)) none) (from_comma (after_digits k)) ≡ refuse Number
        by true = unfit lim (leading_digits l) _ _ (leading_digits k) refl (not-fit lim (length (leading_digits l)) (length (leading_digits k)) (λ a b c. no o b c))
        by false = no-back lim (leading_digits l) _ _ refl

    module _ {most w j : ℕ} {e : List ℕ} (q : Ran most v k w j e) where
      pub case-no-digits : j ≡ 0 → unsigned_place lim l ≡ refuse Number
      case-no-digits z = there-decided ∙ no-back lim (leading_digits l) _ _ (ap (λ (i : ℕ). cond (ltb 0 i && eqb (length (text (after_digits k))) 0) (some (leading_digits k)) none) (sym q.count-is ∙ z))

      pub case-junk : at_end e ≡ false → unsigned_place lim l ≡ refuse Number
      case-junk z =
          let g : at_end (after_digits k) ≡ false = ap at_end (sym q.rest-is) ∙ z in
          there-decided ∙ ap (λ (t : Bool). decided lim (leading_digits l) (cond (ltb 0 (length (leading_digits k)) && t) (some (leading_digits k)) none) (from_comma (after_digits k))) (ne_eqb _ _ (more-text (after_digits k) g))
          ∙ by (ltb 0 (length (leading_digits k)))
        where
          by : (t : Bool) → decided lim (leading_digits l) (cond (t && false) (some (leading_digits k)) none) (from_comma (after_digits k)) ≡ refuse Number
          by true = no-back lim (leading_digits l) _ _ refl
          by false = no-back lim (leading_digits l) _ _ refl

      pub case-good : (n ≡ 0 → ⊥) → (j ≡ 0 → ⊥) → most ≤ lim.after → n + most ≤ lim.all → at_end e ≡ true → unsigned_place lim l ≡ got (some (without_sign w j)) e
      case-good z z' a b f =
          let c = r.count-is in
          let c' = q.count-is in
          let d = r.few in
          let d' = q.few in
          let g : at_end (after_digits k) ≡ true = ap at_end (sym q.rest-is) ∙ f in
          let y : value_from (value_from 0 (leading_digits l)) (leading_digits k) ≡ w = ap (λ (x : ℕ). value_from x (leading_digits k)) (sym r.value-is) ∙ sym q.value-is in
          let x : cond {A = Option (List ℕ)} (ltb 0 (length (leading_digits k)) && eqb (length (text (after_digits k))) 0) (some (leading_digits k)) none ≡ some (leading_digits k) = rw (lt-ltb 0 (length (leading_digits k)) (omega arith), end-text (after_digits k) g) in
          there-decided
          ∙ good lim (leading_digits l) _ _ (leading_digits k) x (omega arith) (fit lim (length (leading_digits l)) (length (leading_digits k)) d (omega arith) (omega arith))
          ∙ ap (λ (x : ℕ). got (some (without_sign x (length (leading_digits k)))) (from_comma (after_digits k))) y
          ∙ ap (λ (x : ℕ). got (some (without_sign w x)) (from_comma (after_digits k))) (sym c')
          ∙ ap (got (some (without_sign w j))) (end-past (after_digits k) g ∙ sym q.rest-is)

pub too-long : (after all n r k : ℕ) → (r ≤ after) × (r ≤ all - n) × (r ≡ min after (all - n)) → n ≤ all → r < k → (after < k) ⊎ (all < n + k)
too-long after all n r k h j i = by (ltb after k) refl
  where
    by : (t : Bool) → ltb after k ≡ t → (after < k) ⊎ (all < n + k)
    by true e = inl (ltb-true _ _ e)
    by false e = let g : k ≤ after = ltb-false after k e in inr (omega arith)
