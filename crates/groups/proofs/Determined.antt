-- There is one number of indices of which something holds: two rising lists with the same numbers are as long, since the first of each is the
-- smallest. Assumes nothing.
use Prim.Native.Nat.{ℕ, ◌≤◌, ◌<◌}
use native.Mathlib.Omega.{arith}
use mathlib.Core.Path.{◌≡◌, refl, sym, ◌∙◌}
use mathlib.Core.Logic.{inl, inr, ⊎_elim, ◌↔◌}
use mathlib.Core.List.{List, [], ◌∷◌}
use lib.ListN.{length}
use Rattle.groups.specs.Left.{All}
use Rattle.groups.specs.Count.{Among, Rising, Many}

-- what is among numbers above i is above i
above : (i j : ℕ) (is : List ℕ) → All (λ k. i < k) is → Among j is → i < j
above i j [] a m = absurd m
above i j (k ∷ is) a m = ⊎_elim (λ e. omega (arith, a.0)) (above i j is a.1) m

-- the first number of a rising list is the smallest
least : (i j : ℕ) (js : List ℕ) → Rising (j ∷ js) → Among i (j ∷ js) → j ≤ i
least i j js r m = ⊎_elim (λ e. omega arith) (λ n. let a = above j i js r.0 n in omega arith) m

-- what one list has behind its first, the other has behind its first
rest-in : (i j k : ℕ) (is js : List ℕ) → i ≡ j → Rising (i ∷ is) → (Among k (i ∷ is) → Among k (j ∷ js)) → Among k is → Among k js
rest-in i j k is js e r f m = ⊎_elim (λ q. let a = above i k is r.0 m in absurd (omega arith)) (λ n. n) (f (inr m))

same-length : (is js : List ℕ) → Rising is → Rising js → ((k : ℕ) → Among k is ↔ Among k js) → length is ≡ length js
same-length [] [] r s f = refl
same-length [] (j ∷ js) r s f = absurd ((f j).1 (inl refl))
same-length (i ∷ is) [] r s f = absurd ((f i).0 (inl refl))
same-length (i ∷ is) (j ∷ js) r s f =
    let a = least i j js s ((f i).0 (inl refl)) in
    let b = least j i is r ((f j).1 (inl refl)) in
    let e : i ≡ j = omega arith in
    let ih = same-length is js r.1 s.1 (λ k. (rest-in i j k is js e r (f k).0, rest-in j i k js is (sym e) s (f k).1)) in
    omega arith

-- THE THEOREM
pub many-same : {P : ℕ → Type 0} {m n : ℕ} → Many P m → Many P n → m ≡ n
many-same a b =
    sym a.count
    ∙ same-length a.indices b.indices a.rising b.rising (λ k. (λ x. (b.those k).1 ((a.those k).0 x), λ x. (a.those k).1 ((b.those k).0 x)))
    ∙ b.count
