-- The 18 cells: a satellite is put behind those that stand there, in the first cell that is zero. Assumes nothing.
use Prim.Native.Nat.{ℕ, suc, ◌-◌, ◌≤◌, ◌<◌, min}
use native.Mathlib.Omega.{arith}
use mathlib.Core.Path.{◌≡◌, refl, ap, sym, ◌∙◌}
use mathlib.Core.List.{List, [], ◌∷◌, ◌++◌, append_assoc}
use mathlib.Core.Option.{Option, none, some}
use lib.ListN.{length, take, set, replicate, length-append, length-replicate, length-take}
use lib.Seq.{set-append_seam, take-append_seam, take-append-le, take_all}
use Rattle.gsa.specs.Gsa.{filled, kept, row}

pub row-length : (xs : List ℕ) → length xs ≤ kept → length (row xs) ≡ kept
row-length xs h = simp (length-append, length-replicate) (omega arith)

-- the first cells of a row are what it holds
pub row-used : {cells xs : List ℕ} {count : ℕ} → cells ≡ row xs → count ≡ length xs → take count cells ≡ xs
row-used {cells} {xs} {count} e f =
    ap (take count) e ∙ ap (λ (n : ℕ). take n (row xs)) f ∙ take-append_seam xs (replicate (kept - length xs) 0)

pub row-put : (xs : List ℕ) (v : ℕ) → length xs < kept → set (row xs) (length xs) v ≡ row (xs ++ (v ∷ []))
row-put xs v h =
    let n : ℕ = kept - length (xs ++ (v ∷ [])) in
    let e : kept - length xs ≡ suc n = omega (arith, length-append xs (v ∷ [])) in
    ap (λ (k : ℕ). set (xs ++ replicate k 0) (length xs) v) e
    ∙ set-append_seam xs 0 (replicate n 0) v
    ∙ sym (append_assoc xs (v ∷ []) (replicate n 0))

filled-append : (is js : List (Option ℕ)) → filled (is ++ js) ≡ filled is ++ filled js
filled-append [] js = refl
filled-append (none ∷ is) js = filled-append is js
filled-append (some n ∷ is) js = ap (λ (l : List ℕ). n ∷ l) (filled-append is js)

filled-fewer : (is : List (Option ℕ)) → length (filled is) ≤ length is
filled-fewer [] = omega arith
filled-fewer (none ∷ is) = omega (arith, filled-fewer is)
filled-fewer (some n ∷ is) = omega (arith, filled-fewer is)

-- the satellites of the items that are kept
abbrev pub chosen : List (Option ℕ) → List ℕ
chosen is = filled (take kept is)

pub chosen-fewer : (is : List (Option ℕ)) → length (chosen is) ≤ min kept (length is)
chosen-fewer is = omega (arith, filled-fewer (take kept is), length-take kept is)

-- one item more
module _ (is : List (Option ℕ)) (a : Option ℕ) where
  pub chosen-full : kept ≤ length is → chosen (is ++ (a ∷ [])) ≡ chosen is
  chosen-full h = ap filled (take-append-le kept is (a ∷ []) h)

  pub chosen-more : length is < kept → chosen (is ++ (a ∷ [])) ≡ chosen is ++ filled (a ∷ [])
  chosen-more h =
      ap filled (take_all kept (is ++ (a ∷ [])) (omega (arith, length-append is (a ∷ []))))
      ∙ filled-append is (a ∷ [])
      ∙ ap (λ (l : List (Option ℕ)). filled l ++ filled (a ∷ [])) (sym (take_all kept is (omega arith)))
