-- A byte as a hexadecimal digit, by the range that it lies in. Assumes nothing.
use Prim.Native.Nat.{ℕ, ◌+◌, ◌-◌, ◌≤◌, ◌<◌}
use native.Mathlib.Omega.{arith}
use mathlib.Core.Path.{◌≡◌, refl}
use mathlib.Core.Bool.{Bool, true, false, cond, ◌&&◌}
use mathlib.Core.Option.{none, some}
use lib.Dec.{leb, ltb, eqb}
use borrow.Author.Tests.{le-leb, lt-leb, leb-true, lt-ltb, ltb-false, eqb-true}
use Rattle.text.specs.Bytes.{byte}
use Rattle.frame.specs.Digits.{within, digit, lead_digit}

module _ (lo hi b : ℕ) where
  inside : lo ≤ b → b ≤ hi → within lo hi b ≡ true
  inside h k = rw (le-leb lo b h, le-leb b hi k)

  below : b < lo → within lo hi b ≡ false
  below h = rw (lt-leb lo b h)

  above : hi < b → within lo hi b ≡ false
  above h = by (leb lo b)
    where
      by : (t : Bool) → (t && leb b hi) ≡ false
      by true = lt-leb b hi h
      by false = refl

  top : within lo hi b ≡ true → b ≤ hi
  top e = by (leb lo b) (leb b hi) refl e
    where
      by : (t u : Bool) → leb b hi ≡ u → (t && u) ≡ true → b ≤ hi
      by true true f e = leb-true b hi f
      by true false f e = let z : ◌≡◌ {A = ℕ} 0 1 = cc in absurd (omega arith)
      by false u f e = let z : ◌≡◌ {A = ℕ} 0 1 = cc in absurd (omega arith)

module _ (b : ℕ) where
  pub decimal : byte "0" ≤ b → b ≤ byte "9" → digit b ≡ some (b - byte "0")
  unfolding digit
  decimal h k = rw (inside (byte "0") (byte "9") b h k)

  pub upper : byte "A" ≤ b → b ≤ byte "F" → digit b ≡ some (b - byte "A" + 10)
  unfolding digit
  upper h k = rw (above (byte "0") (byte "9") b (omega arith), inside (byte "A") (byte "F") b h k)

  pub lower : byte "a" ≤ b → b ≤ byte "f" → digit b ≡ some (b - byte "a" + 10)
  unfolding digit
  lower h k = rw (above (byte "0") (byte "9") b (omega arith), above (byte "A") (byte "F") b (omega arith), inside (byte "a") (byte "f") b h k)

  pub none-below : b < byte "0" → digit b ≡ none
  unfolding digit
  none-below h = rw (below (byte "0") (byte "9") b h, below (byte "A") (byte "F") b (omega arith), below (byte "a") (byte "f") b (omega arith))

  pub none-between : byte "9" < b → b < byte "A" → digit b ≡ none
  unfolding digit
  none-between h k = rw (above (byte "0") (byte "9") b h, below (byte "A") (byte "F") b k, below (byte "a") (byte "f") b (omega arith))

  pub none-between-cases : byte "F" < b → b < byte "a" → digit b ≡ none
  unfolding digit
  none-between-cases h k = rw (above (byte "0") (byte "9") b (omega arith), above (byte "A") (byte "F") b h, below (byte "a") (byte "f") b k)

  pub none-above : byte "f" < b → digit b ≡ none
  unfolding digit
  none-above h = rw (above (byte "0") (byte "9") b (omega arith), above (byte "A") (byte "F") b (omega arith), above (byte "a") (byte "f") b h)

  -- a digit is below sixteen
  pub digit-low : (v : ℕ) → digit b ≡ some v → v ≤ 15
  unfolding digit
  digit-low v e = by (within (byte "0") (byte "9") b) (within (byte "A") (byte "F") b) (within (byte "a") (byte "f") b) refl refl refl e
    where
      by : (t u w : Bool) → within (byte "0") (byte "9") b ≡ t → within (byte "A") (byte "F") b ≡ u → within (byte "a") (byte "f") b ≡ w
          → cond t (some (b - byte "0")) (cond u (some (b - byte "A" + 10)) (cond w (some (b - byte "a" + 10)) none)) ≡ some v → v ≤ 15
      by true u w f g h e = let k = top (byte "0") (byte "9") b f in let z : b - byte "0" ≡ v = cc in omega arith
      by false true w f g h e = let k = top (byte "A") (byte "F") b g in let z : b - byte "A" + 10 ≡ v = cc in omega arith
      by false false true f g h e = let k = top (byte "a") (byte "f") b h in let z : b - byte "a" + 10 ≡ v = cc in omega arith
      by false false false f g h e = let z : ◌≡◌ {A = ℕ} 0 1 = cc in absurd (omega arith)

  pub lead-low : (v : ℕ) → lead_digit b ≡ some v → v ≤ 15
  lead-low v e = by (eqb b (byte "+")) e
    where
      by : (t : Bool) → cond t (some 0) (digit b) ≡ some v → v ≤ 15
      by true e = let z : 0 ≡ v = cc in omega arith
      by false e = digit-low v e

  -- a digit is ASCII
  pub digit-ascii : {v : ℕ} → digit b ≡ some v → ltb b 0x80 ≡ true
  digit-ascii e = by (ltb b 0x80) refl
    where
      by : (t : Bool) → ltb b 0x80 ≡ t → t ≡ true
      by true h = refl
      by false h =
          let k = ltb-false b 0x80 h in
          let n = none-above (omega arith) in
          let z : ◌≡◌ {A = ℕ} 0 1 = cc in
          absurd (omega arith)

  pub lead-ascii : {v : ℕ} → lead_digit b ≡ some v → ltb b 0x80 ≡ true
  lead-ascii {v} e = by (eqb b (byte "+")) refl e
    where
      by : (t : Bool) → eqb b (byte "+") ≡ t → cond t (some 0) (digit b) ≡ some v → ltb b 0x80 ≡ true
      by true h e = let k = eqb-true b (byte "+") h in lt-ltb b 0x80 (omega arith)
      by false h e = digit-ascii e
