-- The shortest text of a number reads back, and no digits that read as the number are fewer: each digit more takes a tenth off, and j
-- digits write a number below the j-th power of ten. Assumes nothing.
use Prim.Native.Nat.{ℕ, zero, suc, ◌+◌, ◌-◌, ◌*◌, ◌/◌, ◌%◌, ◌≤◌, ◌<◌}
use native.Mathlib.Omega.{arith}
use mathlib.Core.Path.{◌≡◌, refl, ap, sym, ◌∙◌}
use mathlib.Core.Bool.{Bool, true, false, cond, ◌&&◌}
use mathlib.Core.List.{List, [], ◌∷◌, ◌++◌}
use lib.ListN.{length, length-append}
use lib.Dec.{leb, ltb}
use borrow.Author.Tests.{lt-ltb, le-ltb, ltb-true, ltb-false, leb-true}
use Rattle.text.specs.Reader.{miss, got}
use Rattle.text.specs.Number.{is_digit, AllDigits, leading_digits, after_digits, value_from, number_from, number}
use Rattle.text.proofs.Digits.{digit-yes}
use Rattle.text.proofs.Runs.{together, begin-digits, number-of, value-append}
use Rattle.short.specs.Digits.{digits_for, digits_of}

-- a digit is a byte from 48 to 57
pub digit-range : (b : ℕ) → is_digit b ≡ true → (48 ≤ b) × (b ≤ 57)
digit-range b e = by (leb 48 b) refl e
  where
    by : (t : Bool) → leb 48 b ≡ t → t && leb b 57 ≡ true → (48 ≤ b) × (b ≤ 57)
    by true h e = (leb-true _ _ h, leb-true _ _ e)
    by false h e = let z : ◌≡◌ {A = ℕ} 0 1 = cc in absurd (omega arith)

pub all-append : (a b : List ℕ) → AllDigits a → AllDigits b → AllDigits (a ++ b)
all-append [] b p q = q
all-append (x ∷ a) b p q = (p.0, all-append a b p.1 q)

-- each thing that is true of the digits of a number goes by its tenth
by-tenths : (P : ℕ → List ℕ → Type 0) → ((n : ℕ) → n < 10 → P n ((48 + n) ∷ []))
    → ((n : ℕ) (ds : List ℕ) → 10 ≤ n → P (n / 10) ds → P n (ds ++ ((48 + n % 10) ∷ [])))
    → (k n : ℕ) → n < k → P n (digits_for k n)
unfolding digits_for
by-tenths P one more zero n h = absurd (omega arith)
by-tenths P one more (suc k) n h = go (ltb n 10) refl (λ g. by-tenths P one more k (n / 10) g)
  where
    go : (t : Bool) → ltb n 10 ≡ t → (n / 10 < k → P (n / 10) (digits_for k (n / 10)))
        → P n (cond t ((48 + n) ∷ []) (digits_for k (n / 10) ++ ((48 + n % 10) ∷ [])))
    go true e f = one n (ltb-true n 10 e)
    go false e f =
        let g : 10 ≤ n = ltb-false n 10 e in
        more n (digits_for k (n / 10)) g (f (omega arith))

pub shortest-ind : (P : ℕ → List ℕ → Type 0) → ((n : ℕ) → n < 10 → P n ((48 + n) ∷ []))
    → ((n : ℕ) (ds : List ℕ) → 10 ≤ n → P (n / 10) ds → P n (ds ++ ((48 + n % 10) ∷ []))) → (n : ℕ) → P n (digits_of n)
unfolding digits_of
shortest-ind P one more n = by-tenths P one more (suc n) n (omega arith)

pub are-digits : (n : ℕ) → AllDigits (digits_of n)
are-digits =
    shortest-ind (λ n ds. AllDigits ds) (λ n h. (digit-yes (48 + n) (omega arith) (omega arith), tt))
    (λ n ds h p. all-append ds ((48 + n % 10) ∷ []) p (digit-yes (48 + n % 10) (omega arith) (omega arith), tt))

pub write-value : (n : ℕ) → value_from 0 (digits_of n) ≡ n
write-value =
    shortest-ind (λ n ds. value_from 0 ds ≡ n) (λ n h. omega arith)
    (λ n ds h e.
    let v : value_from 0 (ds ++ ((48 + n % 10) ∷ [])) ≡ value_from 0 ds * 10 + (48 + n % 10 - 48) = value-append 0 ds ((48 + n % 10) ∷ []) in
    omega arith)

pub some-digit : (n : ℕ) → 1 ≤ length (digits_of n)
some-digit = shortest-ind (λ n ds. 1 ≤ length ds) (λ n h. omega arith) (λ n ds h p. simp length-append (omega arith))

-- A NUMBER'S SHORTEST TEXT READS BACK
pub reads-back : (max n : ℕ) (rest : List ℕ) → n ≤ max → leading_digits rest ≡ [] → number max (digits_of n ++ rest) ≡ got n rest
reads-back max n rest h e =
    let v : value_from 0 (digits_of n) ≡ n = write-value n in
    number-of max (digits_of n) rest (are-digits n) (some-digit n) e (omega arith) ∙ ap (λ (m : ℕ). got m rest) v

abbrev pub tens : ℕ → ℕ
tens zero = 1
tens (suc j) = 10 * tens j

-- digits write a number below the power of ten of their count
below : (n j : ℕ) (ds : List ℕ) → AllDigits ds → n < tens j → value_from n ds < tens (j + length ds)
below n j [] p h = let z : j + 0 ≡ j = omega arith in rw z h
below n j (b ∷ ds) p h =
    let z : j + suc (length ds) ≡ suc j + length ds = omega arith in
    let r = digit-range b p.0 in
    rw z (below (n * 10 + (b - 48)) (suc j) ds p.1 (omega arith))

-- a number below a power of ten has no more digits
pub few-digits : (n j : ℕ) → 1 ≤ j → n < tens j → length (digits_of n) ≤ j
few-digits =
    shortest-ind (λ n ds. (j : ℕ) → 1 ≤ j → n < tens j → length ds ≤ j) (λ n h j k l. omega arith)
    (λ n ds h p j. few n ds j h p)
  where
    few : (n : ℕ) (ds : List ℕ) (j : ℕ) → 10 ≤ n → ((j : ℕ) → 1 ≤ j → n / 10 < tens j → length ds ≤ j) → 1 ≤ j → n < tens j
        → length (ds ++ ((48 + n % 10) ∷ [])) ≤ j
    few n ds zero h p k l = absurd (omega arith)
    few n ds (suc zero) h p k l = absurd (omega arith)
    few n ds (suc (suc j)) h p k l = simp length-append (omega (arith, p (suc j) (omega arith) (omega arith)))

-- THE SHORTEST: digits that write the number are no fewer
pub shortest : (ds : List ℕ) → AllDigits ds → 1 ≤ length ds → length (digits_of (value_from 0 ds)) ≤ length ds
shortest ds p h = few-digits (value_from 0 ds) (length ds) h
    (let z : 0 + length ds ≡ length ds = omega arith in rw z at (below 0 0 ds p (omega arith)))

pub shortest-of : (n : ℕ) (ds : List ℕ) → AllDigits ds → 1 ≤ length ds → value_from 0 ds ≡ n → length (digits_of n) ≤ length ds
shortest-of n ds p h e = rw (← e) (shortest ds p h)

pub split-length : (l : List ℕ) → length (leading_digits l) + length (after_digits l) ≡ length l
split-length l = sym (length-append (leading_digits l) (after_digits l)) ∙ ap length (together l)

-- A NUMBER THAT IS READ is in its range, and takes at least the bytes of its shortest text
pub number-eats : (max : ℕ) (l : List ℕ) {n : ℕ} {m : List ℕ} → number max l ≡ got n m → (n ≤ max) × (length (digits_of n) + length m ≤ length l)
unfolding number number_from
number-eats max l {n} {m} e = by (ltb 0 (length (leading_digits l))) (leb (value_from 0 (leading_digits l)) max) refl refl e
  where
    by : (t u : Bool) → ltb 0 (length (leading_digits l)) ≡ t → leb (value_from 0 (leading_digits l)) max ≡ u
        → cond t (cond u (got (value_from 0 (leading_digits l)) (after_digits l)) miss) miss ≡ got n m → (n ≤ max) × (length (digits_of n) + length m ≤ length l)
    by true true et eu e =
        let v : value_from 0 (leading_digits l) ≡ n = cc in
        let w : after_digits l ≡ m = cc in
        let h : 0 < length (leading_digits l) = ltb-true _ _ et in
        let k : value_from 0 (leading_digits l) ≤ max = leb-true _ _ eu in
        let s : length (digits_of n) ≤ length (leading_digits l) = shortest-of n (leading_digits l) (begin-digits l) h v in
        let q : length (leading_digits l) + length m ≡ length l = rw w at (split-length l) in
        (omega arith, omega arith)
    by true false et eu e = let z : ◌≡◌ {A = ℕ} 0 1 = cc in absurd (omega arith)
    by false u et eu e = let z : ◌≡◌ {A = ℕ} 0 1 = cc in absurd (omega arith)

-- how often a tenth may be taken does not matter
enough : (k j n : ℕ) → n < k → n < j → digits_for k n ≡ digits_for j n
unfolding digits_for
enough zero j n h g = absurd (omega arith)
enough (suc k) zero n h g = absurd (omega arith)
enough (suc k) (suc j) n h g = by (ltb n 10) refl (λ p q. enough k j (n / 10) p q)
  where
    by : (t : Bool) → ltb n 10 ≡ t → (n / 10 < k → n / 10 < j → digits_for k (n / 10) ≡ digits_for j (n / 10))
        → cond t ((48 + n) ∷ []) (digits_for k (n / 10) ++ ((48 + n % 10) ∷ []))
        ≡ cond t ((48 + n) ∷ []) (digits_for j (n / 10) ++ ((48 + n % 10) ∷ []))
    by true e f = refl
    by false e f =
        let l : 10 ≤ n = ltb-false n 10 e in
        ap (λ (ds : List ℕ). ds ++ ((48 + n % 10) ∷ [])) (f (omega arith) (omega arith))

-- THE DIGITS BY TENTHS
pub digit-one : (n : ℕ) → n < 10 → digits_of n ≡ (48 + n) ∷ []
unfolding digits_of digits_for
digit-one n h = rw (lt-ltb n 10 h)

pub digits-tenth : (n : ℕ) → 10 ≤ n → digits_of n ≡ digits_of (n / 10) ++ ((48 + n % 10) ∷ [])
unfolding digits_of digits_for
digits-tenth n h =
    rw (le-ltb n 10 h) (ap (λ (ds : List ℕ). ds ++ ((48 + n % 10) ∷ [])) (enough n (suc (n / 10)) (n / 10) (omega arith) (omega arith)))

pub count-tenth : (n : ℕ) → 10 ≤ n → length (digits_of n) ≡ length (digits_of (n / 10)) + 1
count-tenth n h = ap length (digits-tenth n h) ∙ length-append (digits_of (n / 10)) ((48 + n % 10) ∷ [])
