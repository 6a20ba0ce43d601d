-- What the tests on a place say, since the three of `is_place` are asked in their order. Assumes nothing.
use Rattle.std.proofs.Common.{◌≡◌, ℕ, ◌-◌, ◌<◌, ◌≤◌, Bool, true, false, ◌||◌, eqb, ltb, List, length, get_or, sym, refl, ap, ◌∙◌, arith, ltb-false, ltb-true, eq-eqb, ne_eqb}
use mathlib.Core.Bool.{false≢true}
use lib.ListN.{get_or-eq_default}
use Rattle.lines.specs.Places.{is_place}

module _ (log : List ℕ) (p : ℕ) where
  pub place-zero : p ≡ 0 → is_place log p ≡ true
  unfolding is_place
  place-zero e = simp (eq-eqb p 0 e)

  pub place-end : p ≡ length log → is_place log p ≡ true
  unfolding is_place
  place-end e = go (eqb p 0)
    where
      go : (t : Bool) → t || (eqb p (length log) || eqb (get_or log (p - 1) 0) 10) ≡ true
      go true = refl
      go false = simp (eq-eqb p (length log) e)

  pub place-feed : (p ≡ 0 → ⊥) → (p ≡ length log → ⊥) → is_place log p ≡ eqb (get_or log (p - 1) 0) 10
  unfolding is_place
  place-feed a b = simp (ne_eqb p 0 a, ne_eqb p (length log) b)

  pub place-past : (p ≡ 0 → ⊥) → length log < p → is_place log p ≡ false
  place-past a h =
      let k : length log ≤ p - 1 = omega arith in
      place-feed a (λ e. omega arith) ∙ ap (λ (b : ℕ). eqb b 10) (get_or-eq_default log 0 k)

  -- a place lies within the log
  pub place-within : is_place log p ≡ true → p ≤ length log
  place-within e = go (ltb (length log) p) refl
    where
      go : (t : Bool) → ltb (length log) p ≡ t → p ≤ length log
      go false f = ltb-false (length log) p f
      go true f = let h : length log < p = ltb-true (length log) p f in
          let q : false ≡ true = sym (place-past (λ z. omega arith) h) ∙ e in absurd (false≢true q)
