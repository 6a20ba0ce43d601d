-- Whether a byte stands in a part, a byte at a time; and where no `*` stands before a `*`, the text up to the first one ends there. Assumes nothing.
use Prim.Native.Nat.{ℕ, ◌+◌, ◌≤◌, ◌<◌, min}
use native.Mathlib.Omega.{arith}
use mathlib.Core.Path.{◌≡◌, refl, ap, sym, ◌∙◌}
use mathlib.Core.Bool.{Bool, true, false, cond, ◌||◌}
use mathlib.Core.List.{List, [], ◌∷◌, ◌++◌}
use lib.Dec.{eqb}
use lib.ListN.{length, take, drop, get_or, length-take, take-append-drop}
use lib.Seq.{slice, drop-append-le}
use borrow.Author.Tests.{eq-eqb, ne_eqb, eqb-true, eqb-false}
use Rattle.text.specs.Bytes.{byte}
use Rattle.text.specs.Reader.{got, among, until}
use Rattle.text.proofs.Places.{here}
use Rattle.frame.proofs.Sums.{part-here, part-over}
use Rattle.frame.proofs.Until.{Clear, none, more, until-back}

pub unmarked : (c : ℕ) (l : List ℕ) → among c l ≡ false → Clear c l
unfolding among
unmarked c [] e = none
unmarked c (b ∷ l) e = by (eqb c b) refl (λ m. unmarked c l m) e
  where
    by : (x : Bool) → eqb c b ≡ x → (among c l ≡ false → Clear c l) → cond x true (among c l) ≡ false → Clear c (b ∷ l)
    by true h rec e = let z : ◌≡◌ {A = ℕ} 0 1 = cc in absurd (omega arith)
    by false h rec e = more (λ f. eqb-false c b h (sym f)) (rec e)

-- a byte more, whether the byte was seen before or is it
either : (f : Bool) (c b : ℕ) (l : List ℕ) → (f || among c (b ∷ l)) ≡ ((f || eqb b c) || among c l)
unfolding among
either true c b l = refl
either false c b l = by (eqb b c) refl
  where
    by : (x : Bool) → eqb b c ≡ x → cond (eqb c b) true (among c l) ≡ (x || among c l)
    by true h = rw (eq-eqb c b (sym (eqb-true b c h)))
    by false h = rw (ne_eqb c b (λ f. eqb-false b c h (sym f)))

module _ (s : List ℕ) (i to : ℕ) where
  -- a flag and what is left of a part, a byte at a time
  pub one-marked : (f : Bool) (c : ℕ) → i < to → i < length s → (f || among c (slice i to s)) ≡ ((f || eqb (get_or s i 0) c) || among c (slice (i + 1) to s))
  one-marked f c h k = rw (part-here s i to h k) (either f c (get_or s i 0) (slice (i + 1) to s))

  pub all-marked : (f : Bool) (c : ℕ) → min to (length s) ≤ i → (f || among c (slice i to s)) ≡ f
  unfolding among
  all-marked f c h = rw (part-over s i to h) (last f)
    where
      last : (x : Bool) → (x || false) ≡ x
      last true = refl
      last false = refl

  pub cut : i ≤ to → to ≤ length s → drop i s ≡ slice i to s ++ drop to s
  cut h k =
      let g : i ≤ length (take to s) = simp length-take (omega arith) in
      ap (drop i) (sym (take-append-drop to s)) ∙ drop-append-le i (take to s) (drop to s) g

  pub ends-there : i ≤ to → to < length s → get_or s to 0 ≡ byte "*" → among (byte "*") (slice i to s) ≡ false
      → until (byte "*") (drop i s) ≡ got (slice i to s) (drop to s)
  ends-there h k e m =
      let rest : drop to s ≡ byte "*" ∷ drop (to + 1) s = here s to k ∙ ap (λ (b : ℕ). b ∷ drop (to + 1) s) e in
      rw (cut h (omega arith), rest) (until-back (byte "*") (drop (to + 1) s) (unmarked (byte "*") (slice i to s) m))
