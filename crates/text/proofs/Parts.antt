-- The text up to a byte, a byte at a time.
use Prim.Native.Nat.{ℕ, ◌+◌, ◌≤◌, ◌<◌}
use native.Mathlib.Numerals.{add-one}
use native.Mathlib.Omega.{arith}
use mathlib.Core.Path.{◌≡◌, refl, ap, sym}
use mathlib.Core.List.{List, [], ◌∷◌, ◌++◌, append_assoc, append-nil}
use lib.ListN.{length, take, drop, get_or, length-take}
use lib.Seq.{slice, slice_empty, take-suc, drop-append-le}
use borrow.Author.Tests.{eq-eqb, ne_eqb}
use Rattle.text.specs.Reader.{Parse, miss, refuse, got, prepend, until}
use Rattle.text.proofs.Places.{here, ended}

prepend-nil : (r : Parse (List ℕ)) → prepend [] r ≡ r
prepend-nil miss = refl
prepend-nil (refuse f) = refl
prepend-nil (got es l) = refl

prepend-more : (ds es : List ℕ) (r : Parse (List ℕ)) → prepend ds (prepend es r) ≡ prepend (ds ++ es) r
prepend-more ds es miss = refl
prepend-more ds es (refuse f) = refl
prepend-more ds es (got fs l) = ap (λ (x : List ℕ). got x l) (sym (append_assoc ds es fs))

module _ (s : List ℕ) (at i : ℕ) where
  pub slice-more : at ≤ i → i < length s → slice at (i + 1) s ≡ slice at i s ++ (get_or s i 0 ∷ [])
  slice-more h k =
      let g : at ≤ length (take i s) = simp length-take (omega arith) in
      rw (add-one, take-suc s i 0 k, drop-append-le at (take i s) (get_or s i 0 ∷ []) g)

  module _ (c : ℕ) where
    pub until-stop : i < length s → get_or s i 0 ≡ c → prepend (slice at i s) (until c (drop i s)) ≡ got (slice at i s) (drop i s)
    unfolding until
    until-stop k e = rw (here s i k, eq-eqb _ _ e, append-nil (slice at i s))

    pub until-more : at ≤ i → i < length s → (get_or s i 0 ≡ c → ⊥)
        → prepend (slice at i s) (until c (drop i s)) ≡ prepend (slice at (i + 1) s) (until c (drop (i + 1) s))
    unfolding until
    until-more h k e =
        rw (here s i k, ne_eqb _ _ e, slice-more h k) (prepend-more (slice at i s) (get_or s i 0 ∷ []) (until c (drop (i + 1) s)))

    pub until-end : length s ≤ i → prepend (slice at i s) (until c (drop i s)) ≡ miss
    unfolding until
    until-end h = rw (ended s i h)

pub until-start : (s : List ℕ) (at c : ℕ) → until c (drop at s) ≡ prepend (slice at at s) (until c (drop at s))
until-start s at c = sym (rw (slice_empty at s) (prepend-nil (until c (drop at s))))
