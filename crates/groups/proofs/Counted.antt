-- How many lines of a log hand out a group: the gatherer's answers that are one, counted, are as many as the indices at which the definition
-- hands one out, since `exact` says so of each index. Assumes nothing.
use Prim.Native.Nat.{ℕ, zero, suc, ◌+◌, ◌<◌}
use native.Mathlib.Omega.{arith}
use mathlib.Core.Path.{◌≡◌, refl, sym, ◌∙◌}
use mathlib.Core.Logic.{inl, inr, ⊎_elim, ◌↔◌}
use mathlib.Core.List.{List, [], ◌∷◌, map}
use mathlib.Core.Option.{Option, none, some, none-ne-some}
use lib.ListN.{length, get_or, length-map}
use Rattle.groups.specs.Log.{Line, Handed}
use Rattle.groups.specs.Group.{HandedOut}
use Rattle.groups.specs.Step.{fresh, answers}
use Rattle.groups.specs.Left.{All}
use Rattle.groups.specs.Count.{Among, Rising, Many}
use Rattle.groups.proofs.Handed.{exact}

-- numbers, each one more
further : List ℕ → List ℕ
further is = map suc is

further-all : (j : ℕ) (is : List ℕ) → All (λ i. j < i) is → All (λ i. suc j < i) (further is)
unfolding further
further-all j [] h = tt
further-all j (i ∷ is) h = (omega (arith, h.0), further-all j is h.1)

further-rising : (is : List ℕ) → Rising is → Rising (further is)
unfolding further
further-rising [] r = tt
further-rising (i ∷ is) r = (further-all i is r.0, further-rising is r.1)

above-zero : (is : List ℕ) → All (λ i. 0 < i) (further is)
unfolding further
above-zero [] = tt
above-zero (i ∷ is) = (omega arith, above-zero is)

not-zero : (is : List ℕ) → Among 0 (further is) → ⊥
unfolding further
not-zero [] m = m
not-zero (i ∷ is) (inl e) = omega arith
not-zero (i ∷ is) (inr m) = not-zero is m

among-further : (i : ℕ) (is : List ℕ) → Among (suc i) (further is) ↔ Among i is
unfolding further
among-further i [] = (λ m. m, λ m. m)
among-further i (j ∷ is) =
    let a = among-further i is in
    (⊎_elim (λ e. inl (omega arith)) (λ m. inr (a.0 m)), ⊎_elim (λ e. inl (omega arith)) (λ m. inr (a.1 m)))

module _ {X : Type 0} where
  -- how many are there
  abbrev pub some_count : List (Option X) → ℕ
  some_count [] = 0
  some_count (none ∷ os) = some_count os
  some_count (some x ∷ os) = 1 + some_count os

  abbrev There : List (Option X) → ℕ → Type 0
  There os i = (x : X) × (get_or os i none ≡ some x)

  -- where they stand
  places : List (Option X) → List ℕ
  places [] = []
  places (none ∷ os) = further (places os)
  places (some x ∷ os) = 0 ∷ further (places os)

  places-rise : (os : List (Option X)) → Rising (places os)
  unfolding places
  places-rise [] = tt
  places-rise (none ∷ os) = further-rising (places os) (places-rise os)
  places-rise (some x ∷ os) = (above-zero (places os), further-rising (places os) (places-rise os))

  places-count : (os : List (Option X)) → length (places os) ≡ some_count os
  unfolding places further
  places-count [] = refl
  places-count (none ∷ os) = length-map (places os) suc ∙ places-count os
  places-count (some x ∷ os) = omega (arith, length-map (places os) suc, places-count os)

  nowhere : (i : ℕ) → There [] i → ⊥
  nowhere zero h = none-ne-some _ h.1
  nowhere (suc i) h = none-ne-some _ h.1

  those : (os : List (Option X)) (i : ℕ) → Among i (places os) ↔ There os i
  unfolding places
  those [] i = (λ m. absurd m, nowhere i)
  those (none ∷ os) zero = (λ m. absurd (not-zero (places os) m), λ h. absurd (none-ne-some _ h.1))
  those (none ∷ os) (suc i) =
      let a = among-further i (places os) in
      let b = those os i in
      (λ m. b.0 (a.0 m), λ h. a.1 (b.1 h))
  those (some x ∷ os) zero = (λ m. (x, refl), λ h. inl refl)
  those (some x ∷ os) (suc i) =
      let a = among-further i (places os) in
      let b = those os i in
      (⊎_elim (λ e. absurd (omega arith)) (λ m. b.0 (a.0 m)), λ h. inr (a.1 (b.1 h)))

module _ {A : Type 0} (log : List (Line A)) where
  -- THE THEOREM
  pub handed-count : Many (λ i. (h : Handed A) × HandedOut log i h) (some_count (answers fresh log))
  handed-count =
      record {
        indices = places (answers fresh log);
        rising = places-rise (answers fresh log);
        those =
            λ i. (
              λ m. let (h, e) = (those (answers fresh log) i).0 m in (h, (exact log i h).0 e),
              λ d. (those (answers fresh log) i).1 (d.0, (exact log i d.0).1 d.1),
            );
        count = places-count (answers fresh log);
      }

  -- and at each of these indices one group alone
  pub one-group : (i : ℕ) (h g : Handed A) → HandedOut log i h → HandedOut log i g → h ≡ g
  one-group i h g d e = let q : some h ≡ some g = sym ((exact log i h).1 d) ∙ (exact log i g).1 e in cc
