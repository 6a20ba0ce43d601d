-- The text up to the first byte `c`: it has no `c`, and `c` comes next; and a text with no `c` is read back. Assumes nothing.
use Prim.Native.Nat.{ℕ, zero, suc}
use native.Mathlib.Omega.{arith}
use mathlib.Core.Path.{◌≡◌, refl, ap, sym, ◌∙◌}
use mathlib.Core.Bool.{Bool, true, false, cond}
use mathlib.Core.List.{List, [], ◌∷◌, ◌++◌}
use lib.Dec.{eqb}
use lib.ListN.{drop, set}
use borrow.Author.Tests.{eq-eqb, ne_eqb, eqb-true, eqb-false}
use Rattle.text.specs.Reader.{Parse, miss, refuse, got, prepend, until}

-- no byte of a text is `c`
pub data Clear (c : ℕ) : List ℕ → Type 0 where
  none : Clear c []
  more : {b : ℕ} {t : List ℕ} → (b ≡ c → ⊥) → Clear c t → Clear c (b ∷ t)

-- `t` was read of `l`, and `m` is left
pub record Stopped (c : ℕ) (l t m : List ℕ) : Type 0 where
  pub clear : Clear c t
  pub rest : List ℕ
  pub line : l ≡ t ++ (c ∷ rest)
  pub left : m ≡ c ∷ rest

module _ (c : ℕ) where
  pub stopped : (l t m : List ℕ) → until c l ≡ got t m → Stopped c l t m
  unfolding until
  stopped [] t m e = let z : ◌≡◌ {A = ℕ} 0 1 = cc in absurd (omega arith)
  stopped (b ∷ l) t m e = by (eqb b c) refl (until c l) (λ es n f. stopped l es n f) e
    where
      by : (x : Bool) → eqb b c ≡ x → (r : Parse (List ℕ)) → ((es n : List ℕ) → r ≡ got es n → Stopped c l es n)
          → cond {A = Parse (List ℕ)} x (got [] (b ∷ l)) (prepend (b ∷ []) r) ≡ got t m → Stopped c (b ∷ l) t m
      by true h r rec e =
          let g = eqb-true b c h in
          let t-is : [] ≡ t = cc in
          let m-is : b ∷ l ≡ m = cc in
          record { clear = rw (← t-is) none; rest = l; line = cc; left = cc }
      by false h miss rec e = let z : ◌≡◌ {A = ℕ} 0 1 = cc in absurd (omega arith)
      by false h (refuse f) rec e = let z : ◌≡◌ {A = ℕ} 0 1 = cc in absurd (omega arith)
      by false h (got es n) rec e =
          let s = rec es n refl in
          let t-is : b ∷ es ≡ t = cc in
          let m-is : n ≡ m = cc in
          record {
            clear = rw (← t-is) (more (eqb-false b c h) s.clear);
            rest = s.rest;
            line = ap (λ (x : List ℕ). b ∷ x) s.line ∙ ap (λ (x : List ℕ). x ++ (c ∷ s.rest)) t-is;
            left = sym m-is ∙ s.left;
          }

  pub until-back : {t : List ℕ} (l : List ℕ) → Clear c t → until c (t ++ (c ∷ l)) ≡ got t (c ∷ l)
  unfolding until
  until-back l none = rw (eq-eqb c c refl)
  until-back l (more {b} {t} n h) = rw (ne_eqb b c n, until-back l h)

  pub clear-drop : {t : List ℕ} (n : ℕ) → Clear c t → Clear c (drop n t)
  clear-drop zero h = h
  clear-drop (suc n) none = none
  clear-drop (suc n) (more m h) = clear-drop n h

  pub clear-set : {t : List ℕ} (i b : ℕ) → Clear c t → (b ≡ c → ⊥) → Clear c (set t i b)
  clear-set i b none n = none
  clear-set zero b (more m h) n = more n h
  clear-set (suc i) b (more m h) n = more m (clear-set i b h n)
