-- The satellites of a record: how many there are, and that no other cells hold the same ones. Assumes nothing.
use Prim.Native.Nat.{ℕ, ◌≤◌}
use native.Mathlib.Omega.{arith}
use mathlib.Core.Path.{◌≡◌, PathP, to_path_p, ap, sym, ◌∙◌}
use mathlib.Core.List.{List}
use lib.ListN.{length, take, length-take}
use Rattle.std.proofs.Props.{props}
use Rattle.gsa.specs.Gsa.{kept, row}
use Rattle.gsa.specs.Answer.{satellites_of}
use Rattle.gsa.specs.declared.satellites.Satellites.{Satellites}
use Rattle.gsa.proofs.Rows.{row-length}

pub at-most : (x : Satellites) → length (satellites_of x) ≤ kept
at-most x = simp length-take (omega (arith, x.most))

pub count-is : (x : Satellites) → x.count ≡ length (satellites_of x)
count-is x =
    let e : length x.items ≡ kept = ap length x.rest ∙ row-length (satellites_of x) (at-most x) in
    simp length-take (omega (arith, x.most, e))

-- two lists are equal in one way at most
one-path : (xs ys : List ℕ) → IsProp (xs ≡ ys)
one-path xs ys = hlevel props

pub same : {x y : Satellites} → satellites_of x ≡ satellites_of y → x ≡ y
same {x} {y} e =
    let f : x.items ≡ y.items = x.rest ∙ ap row e ∙ sym y.rest in
    let g : x.count ≡ y.count = count-is x ∙ ap length e ∙ sym (count-is y) in
    let le : IsProp (y.count ≤ kept) = hlevel props in
    let a : PathP (λ i. g i ≤ kept) x.most y.most = to_path_p (λ i. g i ≤ kept) (le _ _) in
    let b : PathP (λ i. f i ≡ row (take (g i) (f i))) x.rest y.rest = to_path_p (λ i. f i ≡ row (take (g i) (f i))) (one-path y.items (row (take y.count y.items)) _ _) in
    λ i. record { items = f i; count = g i; most = a i; rest = b i }
