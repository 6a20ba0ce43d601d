-- Whether a text is one of a list of texts, as the library looks; and that this is membership, since two texts are alike exactly where
-- they are equal. Assumes nothing.
use Prim.Native.Nat.{ℕ}
use native.Mathlib.Omega.{arith}
use mathlib.Core.Path.{◌≡◌, refl, ap, sym, ◌∙◌}
use mathlib.Core.Bool.{Bool, true, false, ◌||◌, and-eq-true_iff}
use mathlib.Core.List.Memᴰ.{head}
use mathlib.Core.List.Memᴰ.{tail}
use mathlib.Core.List.{List, [], ◌∷◌, Memᴰ}
use lib.Dec.{eqb}
use borrow.Author.Tests.{eq-eqb, ne_eqb, eqb-true, eqb-false}
use lib.Pointwise.{pointwise}
use Rattle.std.specs.List.{list_any}
use Rattle.frame.specs.Types.{alike, listed}
use Rattle.frame.specs.Answer.{letters}
use Rattle.frame.specs.declared.refusal.Kind.{Kind}

-- a type with these letters
pub lettered : (ts : List (List ℕ)) (k : Kind) (a b c : ℕ) → k.0 ≡ a → k.1 ≡ b → k.2 ≡ c → listed ts (letters k) ≡ listed ts (a ∷ b ∷ c ∷ [])
lettered ts k a b c e f g = rw (e, f, g)

-- alike is equal
pub alike-equal : (s t : List ℕ) → alike s t ≡ true → s ≡ t
unfolding alike
alike-equal [] [] e = refl
alike-equal (a ∷ s) (b ∷ t) e =
    let w = (and-eq-true_iff (eqb a b) (alike s t)).0 e in
    let h = eqb-true a b w.0 in
    let k = alike-equal s t w.1 in
    cc
alike-equal [] (b ∷ t) e = let z : ◌≡◌ {A = ℕ} 0 1 = cc in absurd (omega arith)
alike-equal (a ∷ s) [] e = let z : ◌≡◌ {A = ℕ} 0 1 = cc in absurd (omega arith)

pub alike-self : (s : List ℕ) → alike s s ≡ true
unfolding alike
alike-self [] = refl
alike-self (a ∷ s) = rw (eq-eqb a a refl) (alike-self s)

-- the library's test of a list, which asks the texts and not the one that is looked for
turned : (a b : ℕ) → eqb a b ≡ eqb b a
turned a b = by (eqb b a) refl
  where
    by : (x : Bool) → eqb b a ≡ x → eqb a b ≡ x
    by true e = eq-eqb a b (sym (eqb-true b a e))
    by false e = ne_eqb a b (λ f. eqb-false b a e (sym f))

pointwise-alike : (t k : List ℕ) → pointwise eqb t k ≡ alike k t
unfolding alike
pointwise-alike [] [] = refl
pointwise-alike [] (b ∷ k) = refl
pointwise-alike (a ∷ t) [] = refl
pointwise-alike (a ∷ t) (b ∷ k) = rw (turned a b, pointwise-alike t k)

pub any-listed : (ts : List (List ℕ)) (k : List ℕ) → list_any (λ y. pointwise eqb y k) ts ≡ listed ts k
unfolding listed
any-listed [] k = refl
any-listed (t ∷ ts) k = rw (pointwise-alike t k, any-listed ts k)

-- the test is membership
pub member : (ts : List (List ℕ)) (k : List ℕ) → listed ts k ≡ true → Memᴰ k ts
unfolding listed
member [] k e = let z : ◌≡◌ {A = ℕ} 0 1 = cc in absurd (omega arith)
member (t ∷ ts) k e = by (alike k t) refl (λ f. member ts k f) e
  where
    by : (x : Bool) → alike k t ≡ x → (listed ts k ≡ true → Memᴰ k ts) → (x || listed ts k) ≡ true → Memᴰ k (t ∷ ts)
    by true f rest e = head (alike-equal k t f)
    by false f rest e = tail (rest e)

pub passes : {k : List ℕ} {ts : List (List ℕ)} → Memᴰ k ts → listed ts k ≡ true
unfolding listed
passes {k = k} (head {x = t} {xs = ts} e) = ap (λ (b : Bool). b || listed ts k) (sym (ap (alike k) e) ∙ alike-self k)
passes {k = k} (tail {x = t} {xs = ts} m) = by (alike k t) (passes m)
  where
    by : (x : Bool) → listed ts k ≡ true → (x || listed ts k) ≡ true
    by true h = refl
    by false h = h
