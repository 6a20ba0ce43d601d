-- A run of one byte, the end of the text and one of three digits, by the byte that stands at a place. Assumes nothing.
use Prim.Native.Nat.{ℕ, ◌+◌, ◌≤◌, ◌<◌}
use native.Mathlib.Omega.{arith}
use mathlib.Core.Path.{◌≡◌, refl}
use mathlib.Core.Bool.{Bool, true, false, ◌||◌}
use mathlib.Core.List.{List}
use lib.ListN.{length, drop, get_or, length-drop}
use lib.Dec.{eqb}
use borrow.Author.Tests.{eq-eqb, ne_eqb, eqb-false}
use Rattle.text.specs.Bytes.{byte}
use Rattle.text.specs.Reader.{miss, got, Reader, char}
use Rattle.text.specs.Placed.{Reads, unread, upto}
use Rattle.text.proofs.Places.{here, ended, a-read, no-read, took}
use Rattle.text.proofs.Binds.{char-one}
use Rattle.text.specs.Many.{skip, eof, one_of3}

module _ (c : ℕ) (s : List ℕ) (i : ℕ) where
  pub skip-more : i < length s → get_or s i 0 ≡ c → skip c (drop i s) ≡ skip c (drop (i + 1) s)
  unfolding skip
  skip-more h e = rw (here s i h, eq-eqb _ _ e)

  pub skip-stop : i < length s → (get_or s i 0 ≡ c → ⊥) → skip c (drop i s) ≡ got tt (drop i s)
  unfolding skip
  skip-stop h e = rw (here s i h, ne_eqb _ _ e)

  pub skip-end : length s ≤ i → skip c (drop i s) ≡ got tt (drop i s)
  unfolding skip
  skip-end h = rw (ended s i h)

module _ {s : List ℕ} {at : ℕ} where
  -- a byte that was read is one of the text
  pub byte-within : (c : ℕ) {p : ℕ} → Reads s at (char c) (upto tt p) → p ≤ length s
  byte-within c {p} t =
      let k = took t refl in
      let e = simp length-drop at (char-one c (drop at s) (drop p s) k.reads) in
      omega (arith, k.within, e)

  pub at-end : length s ≤ at → Reads s at eof (upto tt at)
  unfolding eof
  at-end h = a-read (rw (ended s at h)) (omega arith) (omega arith)

  pub not-end : at < length s → Reads s at eof unread
  unfolding eof
  not-end h = no-read (rw (here s at h))

-- a fix: the bytes 1, 2 and 3 stand side by side
abbrev one_two_three : Reader ℕ
one_two_three = one_of3 (byte "1") (byte "2") (byte "3")

abbrev is_fix : ℕ → Bool
is_fix b = eqb b (byte "1") || (eqb b (byte "2") || eqb b (byte "3"))

fix-yes : (b : ℕ) → byte "1" ≤ b → b ≤ byte "3" → is_fix b ≡ true
fix-yes b h k = by (eqb b (byte "1")) (eqb b (byte "2")) (eqb b (byte "3")) refl refl refl
  where
    by : (t u v : Bool) → eqb b (byte "1") ≡ t → eqb b (byte "2") ≡ u → eqb b (byte "3") ≡ v → (t || (u || v)) ≡ true
    by true u v e f g = refl
    by false true v e f g = refl
    by false false true e f g = refl
    by false false false e f g = absurd (omega (arith, eqb-false b (byte "1") e, eqb-false b (byte "2") f, eqb-false b (byte "3") g))

module _ (s : List ℕ) (i : ℕ) where
  pub fix-past : length s ≤ i → one_two_three (drop i s) ≡ miss
  unfolding one_of3
  fix-past h = rw (ended s i h)

  pub fix-is : i < length s → byte "1" ≤ get_or s i 0 → get_or s i 0 ≤ byte "3" → one_two_three (drop i s) ≡ got (get_or s i 0) (drop (i + 1) s)
  unfolding one_of3
  fix-is h k j = rw (here s i h, fix-yes (get_or s i 0) k j)

  fix-none : i < length s → (get_or s i 0 ≡ byte "1" → ⊥) → (get_or s i 0 ≡ byte "2" → ⊥) → (get_or s i 0 ≡ byte "3" → ⊥) → one_two_three (drop i s) ≡ miss
  unfolding one_of3
  fix-none h e f g = rw (here s i h, ne_eqb _ _ e, ne_eqb _ _ f, ne_eqb _ _ g)

  pub fix-below : i < length s → get_or s i 0 < byte "1" → one_two_three (drop i s) ≡ miss
  fix-below h k = fix-none h (λ e. omega arith) (λ e. omega arith) (λ e. omega arith)

  pub fix-above : i < length s → byte "3" < get_or s i 0 → one_two_three (drop i s) ≡ miss
  fix-above h k = fix-none h (λ e. omega arith) (λ e. omega arith) (λ e. omega arith)
