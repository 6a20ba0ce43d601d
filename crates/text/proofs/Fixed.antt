-- Numbers of so many bytes, byte by byte.
use Prim.Native.Nat.{ℕ, ◌+◌, ◌-◌, ◌*◌, ◌≤◌, ◌<◌}
use native.Mathlib.Numerals.{add-one}
use native.Mathlib.Omega.{arith}
use mathlib.Core.Path.{◌≡◌, refl, ap, sym, ◌∙◌}
use mathlib.Core.Bool.{Bool, true, false, cond, ◌&&◌}
use mathlib.Core.List.{List, [], ◌∷◌}
use mathlib.Core.Option.{Option, none, some}
use lib.ListN.{length, take, drop, get_or, length-drop, length-take}
use lib.Seq.{slice, slice-cons, drop-drop}
use Rattle.std.proofs.lemmas.List.{drop-take}
use lib.Dec.{leb, ltb, eqb}
use borrow.Author.Tests.{le-leb, lt-leb, leb-true, ltb-true, ltb-false, lt-ltb, le-ltb, eq-eqb, ne_eqb}
use Rattle.text.specs.Bytes.{byte}
use Rattle.text.specs.Reader.{Parse, miss, got}
use Rattle.text.specs.Number.{is_digit, leading_digits, after_digits, value_from, fixed, unsigned, up_to, written}
use Rattle.text.proofs.Places.{ended}
use Rattle.text.specs.Code.{unit}

pub digit-top : (b : ℕ) → is_digit b ≡ true → b ≤ 57
digit-top b e = by (leb 48 b) (leb b 57) refl e
  where
    by : (t u : Bool) → leb b 57 ≡ u → (t && u) ≡ true → b ≤ 57
    by true true f e = leb-true b 57 f
    by true false f e = let z : ◌≡◌ {A = ℕ} 0 1 = cc in omega arith
    by false u f e = let z : ◌≡◌ {A = ℕ} 0 1 = cc in omega arith

unit-low : (b : ℕ) → b < 48 → unit b ≡ b + 208
unit-low b h = rw (lt-ltb b 48 h)

unit-high : (b : ℕ) → 48 ≤ b → unit b ≡ b - 48
unit-high b h = rw (le-ltb b 48 h)

pub unit-digit : (b : ℕ) → unit b ≤ 9 → is_digit b ≡ true
unit-digit b h = by (ltb b 48) refl
  where
    by : (t : Bool) → ltb b 48 ≡ t → is_digit b ≡ true
    by true e = absurd (omega (arith, unit-low b (ltb-true b 48 e), h))
    by false e =
        let k : 48 ≤ b = ltb-false b 48 e in
        let m : b ≤ 57 = omega (arith, unit-high b k, h) in
        rw (le-leb 48 b k, le-leb b 57 m)

pub unit-none : (b : ℕ) → 9 < unit b → is_digit b ≡ false
unit-none b h = by (ltb b 48) refl
  where
    by : (t : Bool) → ltb b 48 ≡ t → is_digit b ≡ false
    by true e = rw (lt-leb 48 b (ltb-true b 48 e))
    by false e =
        let k : 48 ≤ b = ltb-false b 48 e in
        let m : 57 < b = omega (arith, unit-high b k, h) in
        rw (le-leb 48 b k, lt-leb b 57 m)

pub unit-is : (b : ℕ) → is_digit b ≡ true → unit b ≡ b - 48
unit-is b e = by (leb 48 b) (leb b 57) refl e
  where
    by : (t u : Bool) → leb 48 b ≡ t → (t && u) ≡ true → unit b ≡ b - 48
    by true u f e = unit-high b (leb-true 48 b f)
    by false u f e = let z : ◌≡◌ {A = ℕ} 0 1 = cc in absurd (omega arith)

-- the digits of a text as a number that goes on from `v`; none where a byte is no digit
abbrev pub go_on : ℕ → List ℕ → Option ℕ
go_on v [] = some v
go_on v (b ∷ l) = cond (is_digit b) (go_on (v * 10 + (b - byte "0")) l) none

-- where the text is digits alone, that number is what they write
go-value : (v : ℕ) (l : List ℕ) → go_on v l ≡ cond (eqb (length (after_digits l)) 0) (some (value_from v l)) none
go-value v [] = refl
go-value v (b ∷ l) = by (is_digit b) (go-value (v * 10 + (b - 48)) l)
  where
    w : ℕ
    w = v * 10 + (b - 48)

    by : (t : Bool) → go_on w l ≡ cond (eqb (length (after_digits l)) 0) (some (value_from w l)) none
        → cond t (go_on w l) none ≡ cond (eqb (length (cond t (after_digits l) (b ∷ l))) 0) (some (value_from w l)) none
    by true h = h
    by false h = rw (ne_eqb (length (b ∷ l)) 0 (λ e. omega arith))

-- so Rust reads one or more digits as reading them on from nothing does
go-written : (l : List ℕ) → 0 < length l → written l ≡ go_on 0 l
go-written [] h = absurd (omega arith)
go-written (b ∷ l) h = by (is_digit b) (go-value (0 * 10 + (b - 48)) l)
  where
    w : ℕ
    w = 0 * 10 + (b - 48)

    by : (t : Bool) → go_on w l ≡ cond (eqb (length (after_digits l)) 0) (some (value_from w l)) none
        → cond (ltb 0 (length (cond t (b ∷ leading_digits l) [])) && eqb (length (cond t (after_digits l) (b ∷ l))) 0) (some (value_from w l)) none
        ≡ cond t (go_on w l) none
    by true h =
        let k : 0 < length (b ∷ leading_digits l) = omega arith in
        rw (lt-ltb _ _ k) (sym h)
    by false h = refl

-- a first byte that counts `a`: the digits behind it are read on from there
pub record Lead (b a : ℕ) : Type 0 where
  pub reads : (l : List ℕ) → 0 < length l → unsigned (b ∷ l) ≡ go_on a l
  pub small : a ≤ 9

pub plus-leads : (b : ℕ) {a : ℕ} → b ≡ byte "+" → a ≡ 0 → Lead b a
plus-leads b e f = record { reads = λ l h. rw (eq-eqb b (byte "+") e, f) (go-written l h); small = omega arith }

pub digit-leads : (b : ℕ) {u a : ℕ} → u ≡ unit b → u ≤ 9 → a ≡ u → Lead b a
digit-leads b {u} {a} e h f = record { reads = reads; small = omega arith }
  where
    -- `+` is no digit
    no-plus : b ≡ byte "+" → ⊥
    no-plus g = omega (arith, unit-low b (omega arith))

    digit : is_digit b ≡ true
    digit = unit-digit b (omega arith)

    counts : 0 * 10 + (b - 48) ≡ a
    counts = omega (arith, unit-is b digit)

    on : (l : List ℕ) → go_on 0 (b ∷ l) ≡ go_on a l
    on l = rw digit (ap (λ (v : ℕ). go_on v l) counts)

    reads : (l : List ℕ) → 0 < length l → unsigned (b ∷ l) ≡ go_on a l
    reads l k = rw (ne_eqb b (byte "+") no-plus) (go-written (b ∷ l) (omega arith) ∙ on l)

none-leads : (b : ℕ) (l : List ℕ) → 9 < unit b → (b ≡ byte "+" → ⊥) → unsigned (b ∷ l) ≡ none
none-leads b l h n = rw (ne_eqb b (byte "+") n) (go-written (b ∷ l) (omega arith) ∙ none-on)
  where
    none-on : go_on 0 (b ∷ l) ≡ none
    none-on = rw (unit-none b h)

-- more digits write no smaller number, so none that follow bring it back to 255
pub go-over : (v : ℕ) (l m : List ℕ) → 255 < v → up_to 255 (go_on v l) m ≡ miss
go-over v [] m h = rw (lt-leb v 255 h)
go-over v (b ∷ l) m h = by (is_digit b) (go-over (v * 10 + (b - 48)) l m (omega arith))
  where
    by : (t : Bool) → up_to 255 (go_on (v * 10 + (b - 48)) l) m ≡ miss → up_to 255 (cond t (go_on (v * 10 + (b - 48)) l) none) m ≡ miss
    by true g = g
    by false g = refl

-- the bytes of a text up to the place `e`, from the place `i` on
module _ (s : List ℕ) (e i : ℕ) where
  part-here : i < e → e ≤ length s → slice i e s ≡ get_or s i 0 ∷ slice (i + 1) e s
  part-here h k = rw add-one (slice-cons i e s 0 h k)

  module _ (h : i < e) (v : ℕ) {d : ℕ} where
    pub go-digit : d ≤ 9 → d ≡ unit (get_or s i 0) → e ≤ length s → go_on v (slice i e s) ≡ go_on (v * 10 + d) (slice (i + 1) e s)
    go-digit j f k =
        let t : is_digit (get_or s i 0) ≡ true = unit-digit (get_or s i 0) (omega arith) in
        let z : get_or s i 0 - 48 ≡ d = omega (arith, unit-is (get_or s i 0) t) in
        rw (part-here h k, t) (ap (λ (x : ℕ). go_on (v * 10 + x) (slice (i + 1) e s)) z)

    pub go-none : 9 < d → d ≡ unit (get_or s i 0) → e ≤ length s → go_on v (slice i e s) ≡ none
    go-none j f k =
        let t : is_digit (get_or s i 0) ≡ false = unit-none (get_or s i 0) (omega arith) in
        rw (part-here h k, t)

  pub go-end : (v : ℕ) → e ≤ i → go_on v (slice i e s) ≡ some v
  go-end v h =
      let w : length (take e s) ≤ i = simp length-take (omega arith) in
      rw (ended (take e s) i w)

pub fixed-short : (n : ℕ) (s : List ℕ) (at : ℕ) → length s - at < n → fixed n 255 (drop at s) ≡ miss
unfolding fixed
fixed-short n s at h =
    let k : length (drop at s) < n = simp length-drop h in
    rw (lt-leb _ _ k)

-- the next `n` bytes at a place of a text
module _ (n : ℕ) (s : List ℕ) (at : ℕ) (h : n ≤ length s) (k : at ≤ length s - n) (two : 2 ≤ n) where
  fixed-here : fixed n 255 (drop at s) ≡ up_to 255 (unsigned (get_or s at 0 ∷ slice (at + 1) (at + n) s)) (drop (at + n) s)
  unfolding fixed
  fixed-here =
      let w : n ≤ length (drop at s) = simp length-drop (omega arith) in
      rw (le-leb _ _ w, ← drop-take at n s, part-here s (at + n) at (omega arith) (omega arith), drop-drop n at s)

  pub fixed-lead : {a : ℕ} → Lead (get_or s at 0) a → fixed n 255 (drop at s) ≡ up_to 255 (go_on a (slice (at + 1) (at + n) s)) (drop (at + n) s)
  fixed-lead l =
      let w : 0 < length (slice (at + 1) (at + n) s) = simp (length-drop, length-take) (omega arith) in
      fixed-here ∙ rw (l.reads (slice (at + 1) (at + n) s) w)

  pub fixed-none : {u : ℕ} → u ≡ unit (get_or s at 0) → 9 < u → (get_or s at 0 ≡ byte "+" → ⊥) → fixed n 255 (drop at s) ≡ miss
  fixed-none e g m =
      fixed-here ∙ rw (none-leads (get_or s at 0) (slice (at + 1) (at + n) s) (omega arith) m)

-- what is read is at most 255
pub fixed-limit : (n : ℕ) (l : List ℕ) {v : ℕ} {m : List ℕ} → fixed n 255 l ≡ got v m → v ≤ 255
unfolding fixed
fixed-limit n l {v} {m} e = by (leb n (length l)) (unsigned (take n l)) e
  where
    up : (x : ℕ) (t : Bool) → leb x 255 ≡ t → cond {A = Parse ℕ} t (got x (drop n l)) miss ≡ got v m → v ≤ 255
    up x true f e = let h : x ≡ v = cc in rw (← h) (leb-true x 255 f)
    up x false f e = let y : ◌≡◌ {A = ℕ} 0 1 = cc in absurd (omega arith)

    by : (t : Bool) (o : Option ℕ) → cond {A = Parse ℕ} t (up_to 255 o (drop n l)) miss ≡ got v m → v ≤ 255
    by true none e = let y : ◌≡◌ {A = ℕ} 0 1 = cc in absurd (omega arith)
    by true (some x) e = up x (leb x 255) refl e
    by false o e = let y : ◌≡◌ {A = ℕ} 0 1 = cc in absurd (omega arith)
