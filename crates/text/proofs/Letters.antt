-- A letter at a place: by the byte that stands there, and by the letters one after another. Assumes nothing.
use Prim.Native.Nat.{ℕ, ◌+◌, ◌≤◌, ◌<◌}
use mathlib.Core.Path.{◌≡◌, refl, sym}
use mathlib.Core.Bool.{Bool, true, false, cond, ◌||◌}
use mathlib.Core.List.{List, [], ◌∷◌}
use lib.Dec.{eqb}
use lib.ListN.{length, take, drop, get_or}
use Rattle.std.specs.List.{list_any}
use Rattle.std.proofs.lemmas.List.{take_all}
use borrow.Author.Tests.{eqb-true, eqb-false, eq-eqb, ne_eqb}
use Rattle.text.specs.Reader.{miss, got, one_of, among, letter_of}
use Rattle.text.proofs.Places.{here, ended}

module _ (a b : ℕ) (s : List ℕ) (i : ℕ) where
  pub letter-past : length s ≤ i → one_of a b (drop i s) ≡ miss
  unfolding one_of
  letter-past h = rw (ended s i h)

  pub letter-first : i < length s → get_or s i 0 ≡ a → one_of a b (drop i s) ≡ got (get_or s i 0) (drop (i + 1) s)
  unfolding one_of
  letter-first h e = rw (here s i h, eq-eqb _ _ e)

  pub letter-second : i < length s → (get_or s i 0 ≡ a → ⊥) → get_or s i 0 ≡ b → one_of a b (drop i s) ≡ got (get_or s i 0) (drop (i + 1) s)
  unfolding one_of
  letter-second h n e = rw (here s i h, ne_eqb _ _ n, eq-eqb _ _ e)

  pub letter-none : i < length s → (get_or s i 0 ≡ a → ⊥) → (get_or s i 0 ≡ b → ⊥) → one_of a b (drop i s) ≡ miss
  unfolding one_of
  letter-none h n e = rw (here s i h, ne_eqb _ _ n, ne_eqb _ _ e)

-- a byte among letters, looked for one after another
module _ (b : ℕ) (s : List ℕ) (i : ℕ) where
  pub among-here : i < length s → get_or s i 0 ≡ b → among b (drop i s) ≡ true
  unfolding among
  among-here h e = rw (here s i h, eq-eqb _ _ (sym e))

  pub among-later : i < length s → (get_or s i 0 ≡ b → ⊥) → among b (drop i s) ≡ among b (drop (i + 1) s)
  unfolding among
  among-later h n = rw (here s i h, ne_eqb _ _ (λ e. n (sym e)))

  pub among-none : length s ≤ i → among b (drop i s) ≡ false
  unfolding among
  among-none h = rw (ended s i h)

module _ (letters s : List ℕ) (i : ℕ) where
  pub among-past : length s ≤ i → letter_of letters (drop i s) ≡ miss
  unfolding letter_of
  among-past h = rw (ended s i h)

  pub among-got : i < length s → among (get_or s i 0) letters ≡ true → letter_of letters (drop i s) ≡ got (get_or s i 0) (drop (i + 1) s)
  unfolding letter_of
  among-got h e = rw (here s i h, e)

  pub among-miss : i < length s → among (get_or s i 0) letters ≡ false → letter_of letters (drop i s) ≡ miss
  unfolding letter_of
  among-miss h e = rw (here s i h, e)

-- the library's test of a list, which asks the letters and not the byte
among-cons : (b c : ℕ) (cs : List ℕ) → among b (c ∷ cs) ≡ (eqb c b || among b cs)
unfolding among
among-cons b c cs = by (eqb c b) refl
  where
    by : (t : Bool) → eqb c b ≡ t → cond (eqb b c) true (among b cs) ≡ (t || among b cs)
    by true e = rw (eq-eqb b c (sym (eqb-true c b e)))
    by false e = rw (ne_eqb b c (λ f. eqb-false c b e (sym f)))

pub among-any : (b : ℕ) (letters : List ℕ) → list_any (λ y. eqb y b) letters ≡ among b letters
unfolding among
among-any b [] = refl
among-any b (c ∷ cs) = rw (among-cons b c cs, among-any b cs)

-- a part of the letters that leaves none out is the letters
pub none-out : (letters : List ℕ) (m k : ℕ) → m ≡ 0 → length letters ≤ k → take k (drop m letters) ≡ letters
none-out letters m k e h = rw e (take_all k letters h)
