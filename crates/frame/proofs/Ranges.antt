-- A part of a text by its range: what `get` lends is the slice, where the range lies in the text, and else nothing. Assumes nothing.
use Prim.Native.Nat.{ℕ, ◌+◌, ◌-◌, ◌≤◌, ◌<◌}
use native.Mathlib.Omega.{arith}
use mathlib.Core.Path.{◌≡◌, refl, ap, sym, ◌∙◌}
use mathlib.Core.Logic.{◌⊎◌, inl, inr}
use mathlib.Core.Bool.{Bool, true, false, cond}
use mathlib.Core.List.{List, []}
use denote.Bor.{Bor}
use lib.Dec.{leb}
use lib.ListN.{length, take, drop, length-take, drop_of_length-le}
use lib.Seq.{slice, take-add, drop_at, length-take-le}
use borrow.Author.Tests.{le-leb, lt-leb}
use Rattle.std.specs.Prelude.{Option as Found, Some, None, unwrap_or, MatchOption, slice_range}
use Rattle.std.specs.Slice.{IsGetRangeResult}

module _ (s : List ℕ) (from to : ℕ) where
  -- a part as the code lends it
  pub lent : from ≤ to → to ≤ length s → slice from to s ≡ take (to - from) (drop from s)
  lent h k =
      let e : from + (to - from) ≡ to = omega arith in
      let g : length (take from s) ≡ from = length-take-le from s (omega arith) in
      sym (ap (λ (n : ℕ). slice from n s) e) ∙ ap (drop from) (take-add from (to - from) s) ∙ drop_at (take from s) (take (to - from) (drop from s)) from g

  turned : to < from → cond (leb to (length s)) (slice from to s) [] ≡ []
  turned h = by (leb to (length s))
    where
      by : (t : Bool) → cond {A = List ℕ} t (slice from to s) [] ≡ []
      by true = drop_of_length-le (take to s) {i = from} (simp length-take (omega arith))
      by false = refl

  outside : length s < to → cond (leb to (length s)) (slice from to s) [] ≡ []
  outside h = rw (lt-leb to (length s) h)

  pub ranged : (r : Found (Bor (List ℕ))) {x : Bor (List ℕ)} (e : Bor (List ℕ)) → IsGetRangeResult s from to r → x ≡ unwrap_or r e → e.now ≡ []
      → x.now ≡ cond (leb to (length s)) (slice from to s) []
  ranged r {x} e lookup is empty = by r lookup.0 is
    where
      by : (o : Found (Bor (List ℕ)))
          → MatchOption o ((to < from) ⊎ (length s < to)) (λ (p : Bor (List ℕ)). (from ≤ to) × (to ≤ length s) × (p.now ≡ slice_range s from to) × (length p.now + from ≡ to))
          → x ≡ unwrap_or o e
          → x.now ≡ cond (leb to (length s)) (slice from to s) []
      by None h f =
          let none : x.now ≡ [] = ap (λ (p : Bor (List ℕ)). p.now) f ∙ empty in
          elim h [ inl a ↦ none ∙ sym (turned a) | inr b ↦ none ∙ sym (outside b) ]
      by (Some p) h f =
          ap (λ (q : Bor (List ℕ)). q.now) f
          ∙ h.2
          ∙ sym (ap (λ (t : Bool). cond t (slice from to s) []) (le-leb to (length s) h.1) ∙ lent h.0 h.1)
