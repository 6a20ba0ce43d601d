-- One reader and then another: what both read, by what the first reads; and what each of them read, where both did. Assumes nothing.
use Prim.Native.Nat.{ℕ, suc}
use native.Mathlib.Omega.{arith}
use mathlib.Core.Path.{◌≡◌, refl, ap, subst₂}
use mathlib.Core.Bool.{Bool, true, false, cond}
use mathlib.Core.List.{List, [], ◌∷◌}
use mathlib.Core.Option.{Option, none, some}
use lib.Dec.{eqb}
use lib.ListN.{length}
use borrow.Author.Tests.{eqb-true, eq-eqb, ne_eqb}
use Rattle.text.specs.Reader.{Fault, Parse, miss, refuse, got, Reader, after, ◌>>=◌, pure, opt, or_none, char}

module _ {A B : Type 0} (q : Reader A) (k : A → Reader B) (l : List ℕ) where
  pub bind-miss : q l ≡ miss → (q >>= k) l ≡ miss
  unfolding ◌>>=◌
  bind-miss e = rw e

  pub bind-refuse : {f : Fault} → q l ≡ refuse f → (q >>= k) l ≡ refuse f
  unfolding ◌>>=◌
  bind-refuse e = rw e

  pub bind-got : {a : A} {m : List ℕ} → q l ≡ got a m → (q >>= k) l ≡ k a m
  unfolding ◌>>=◌
  bind-got e = rw e

module _ (c : ℕ) where
  pub char-here : (l : List ℕ) → char c (c ∷ l) ≡ got tt l
  unfolding char
  char-here l = rw (eq-eqb c c refl)

  pub char-other : (b : ℕ) (l : List ℕ) → (b ≡ c → ⊥) → char c (b ∷ l) ≡ miss
  unfolding char
  char-other b l n = rw (ne_eqb b c n)

  -- a text that misses after its first byte
  pub miss-after : {B : Type 0} (k : Unit {0} → Reader B) (b : ℕ) (l : List ℕ) → k tt l ≡ miss → (char c >>= k) (b ∷ l) ≡ miss
  unfolding ◌>>=◌ char
  miss-after k b l e = by (eqb b c)
    where
      by : (t : Bool) → after (cond t (got tt l) miss) k ≡ miss
      by true = e
      by false = refl

module _ {A B : Type 0} where
  -- the one and then the other
  pub record Both (r : Reader A) (k : A → Reader B) (l : List ℕ) (b : B) (m : List ℕ) : Type 0 where
    pub value : A
    pub between : List ℕ
    pub one : r l ≡ got value between
    pub then : k value between ≡ got b m

  pub unbind : (r : Reader A) (k : A → Reader B) (l : List ℕ) {b : B} {m : List ℕ} → (r >>= k) l ≡ got b m → Both r k l b m
  unfolding ◌>>=◌
  unbind r k l {b} {m} e = by (r l) refl e
    where
      by : (p : Parse A) → r l ≡ p → after p k ≡ got b m → Both r k l b m
      by miss f e = let z : ◌≡◌ {A = ℕ} 0 1 = cc in absurd (omega arith)
      by (refuse x) f e = let z : ◌≡◌ {A = ℕ} 0 1 = cc in absurd (omega arith)
      by (got a l') f e = record { value = a; between = l'; one = f; then = e }

module _ {A : Type 0} where
  pub pure-is : {a b : A} {l m : List ℕ} → pure a l ≡ got b m → (a ≡ b) × (l ≡ m)
  unfolding pure
  pure-is e = (cc, cc)

  pub opt-some : (r : Reader A) {a : A} {l m : List ℕ} → r l ≡ got a m → opt r l ≡ got (some a) m
  unfolding opt
  opt-some r {l = l} e = ap (λ (p : Parse A). or_none p l) e

  pub opt-none : (r : Reader A) {l : List ℕ} → r l ≡ miss → opt r l ≡ got none l
  unfolding opt
  opt-none r {l = l} e = ap (λ (p : Parse A). or_none p l) e

  -- it matched, or nothing was eaten
  pub unopt : (r : Reader A) (l : List ℕ) (P : Option A → List ℕ → Type 0) → P none l → ((a : A) (m : List ℕ) → r l ≡ got a m → P (some a) m)
      → {o : Option A} {m : List ℕ} → opt r l ≡ got o m → P o m
  unfolding opt
  unopt r l P none-read some_read {o} {m} e = by (r l) refl e
    where
      by : (p : Parse A) → r l ≡ p → or_none p l ≡ got o m → P o m
      by miss f e =
          let a : none ≡ o = cc in
          let b : l ≡ m = cc in
          subst₂ P a b none-read
      by (refuse x) f e = let z : ◌≡◌ {A = ℕ} 0 1 = cc in absurd (omega arith)
      by (got x l') f e =
          let a : some x ≡ o = cc in
          let b : l' ≡ m = cc in
          subst₂ P a b (some_read x l' f)

pub char-eats : (c : ℕ) (l : List ℕ) {u : Unit {0}} {m : List ℕ} → char c l ≡ got u m → l ≡ c ∷ m
unfolding char
char-eats c [] e = let z : ◌≡◌ {A = ℕ} 0 1 = cc in absurd (omega arith)
char-eats c (b ∷ l) {u} {m} e = by (eqb b c) refl e
  where
    by : (t : Bool) → eqb b c ≡ t → cond t (got tt l) miss ≡ got u m → b ∷ l ≡ c ∷ m
    by true f e =
        let x : b ≡ c = eqb-true b c f in
        let y : l ≡ m = cc in
        cc
    by false f e = let z : ◌≡◌ {A = ℕ} 0 1 = cc in absurd (omega arith)

-- one byte was read
pub char-one : (c : ℕ) (l m : List ℕ) → char c l ≡ got tt m → length l ≡ suc (length m)
char-one c l m e = ap length (char-eats c l e)
