-- The next two or three bytes at a place of a text, and the text from a place on, as `get` lends it. Assumes nothing.
use Prim.Native.Nat.{ℕ, ◌+◌, ◌-◌, ◌≤◌, ◌<◌}
use native.Mathlib.Omega.{arith}
use mathlib.Core.Path.{◌≡◌, refl, ap, sym, ◌∙◌}
use mathlib.Core.Logic.{◌⊎◌, inl, inr}
use mathlib.Core.List.{List, [], ◌∷◌}
use lib.ListN.{length, take, drop, get_or, length-drop, drop_of_length-le}
use lib.Seq.{drop-drop}
use denote.Bor.{Bor}
use Rattle.std.specs.Prelude.{Option as Found, Some, None, unwrap_or, MatchOption, slice_range}
use Rattle.std.specs.Slice.{IsGetRangeResult}
use Rattle.std.proofs.lemmas.List.{take_all}
use borrow.Author.Tests.{le-leb, lt-leb}
use Rattle.text.specs.Reader.{miss, got}
use Rattle.text.proofs.Places.{here}
use Rattle.frame.specs.Frame.{taken}

-- the text from a place on, or nothing, as `get` lends it
pub record Rest (s : List ℕ) (at : ℕ) (p : List ℕ) : Type 0 where
  pub rest : drop at s ≡ p
  pub long : length s - at ≡ length p

pub rest-of : (s : List ℕ) (at : ℕ) (r : Found (Bor (List ℕ))) {x : Bor (List ℕ)} (e : Bor (List ℕ)) → IsGetRangeResult s at (length s) r → x ≡ unwrap_or r e → e.now ≡ [] → Rest s at x.now
rest-of s at r {x} e lookup is empty = by r lookup.0 is
  where
    by : (o : Found (Bor (List ℕ)))
        → MatchOption o ((length s < at) ⊎ (length s < length s)) (λ (p : Bor (List ℕ)). (at ≤ length s) × (length s ≤ length s) × (p.now ≡ slice_range s at (length s)) × (length p.now + at ≡ length s))
        → x ≡ unwrap_or o e
        → Rest s at x.now
    by None h f =
        let past : length s ≤ at = elim h [ inl a ↦ omega arith | inr b ↦ omega arith ] in
        let none : x.now ≡ [] = ap (λ (p : Bor (List ℕ)). p.now) f ∙ empty in
        record { rest = drop_of_length-le s past ∙ sym none; long = rw none (omega arith) }
    by (Some p) h f =
        let whole : take (length s - at) (drop at s) ≡ drop at s = take_all (length s - at) (drop at s) (simp length-drop (omega arith)) in
        let same : x.now ≡ drop at s = ap (λ (q : Bor (List ℕ)). q.now) f ∙ h.2 ∙ whole in
        record { rest = sym same; long = rw (same, length-drop) refl }

module _ (s : List ℕ) (at : ℕ) where
  pub next-two : 2 + at ≤ length s → drop at s ≡ get_or s at 0 ∷ get_or s (at + 1) 0 ∷ drop (at + 2) s
  next-two h =
      let e : at + 1 + 1 ≡ at + 2 = omega arith in
      here s at (omega arith)
      ∙ ap (λ (l : List ℕ). get_or s at 0 ∷ l) (here s (at + 1) (omega arith) ∙ ap (λ (i : ℕ). get_or s (at + 1) 0 ∷ drop i s) e)

  pub next-three : 3 + at ≤ length s → drop at s ≡ get_or s at 0 ∷ get_or s (at + 1) 0 ∷ get_or s (at + 2) 0 ∷ drop (at + 3) s
  next-three h =
      let e : at + 2 + 1 ≡ at + 3 = omega arith in
      next-two (omega arith)
      ∙ ap (λ (l : List ℕ). get_or s at 0 ∷ get_or s (at + 1) 0 ∷ l)
      (here s (at + 2) (omega arith) ∙ ap (λ (i : ℕ). get_or s (at + 2) 0 ∷ drop i s) e)

  pub taken-short : (n : ℕ) → length s - at < n → taken n (drop at s) ≡ miss
  unfolding taken
  taken-short n h =
      let k : length (drop at s) < n = simp length-drop h in
      rw (lt-leb _ _ k)

pub two-of : (a b : ℕ) (l : List ℕ) → taken 2 (a ∷ b ∷ l) ≡ got (a ∷ b ∷ []) l
unfolding taken
two-of a b l =
    let h : 2 ≤ length (a ∷ b ∷ l) = omega arith in
    rw (le-leb _ _ h)

pub three-of : (a b c : ℕ) (l : List ℕ) → taken 3 (a ∷ b ∷ c ∷ l) ≡ got (a ∷ b ∷ c ∷ []) l
unfolding taken
three-of a b c l =
    let h : 3 ≤ length (a ∷ b ∷ c ∷ l) = omega arith in
    rw (le-leb _ _ h)

-- the same of what `get` lends
module _ {s : List ℕ} {at : ℕ} {p : List ℕ} (r : Rest s at p) where
  pub rest-two : 2 ≤ length p → drop at s ≡ get_or p 0 0 ∷ get_or p 1 0 ∷ drop (at + 2) s
  rest-two h =
      r.rest ∙ next-two p 0 h ∙ ap (λ (l : List ℕ). get_or p 0 0 ∷ get_or p 1 0 ∷ l) (ap (drop 2) (sym r.rest) ∙ drop-drop 2 at s)

  pub rest-three : 3 ≤ length p → drop at s ≡ get_or p 0 0 ∷ get_or p 1 0 ∷ get_or p 2 0 ∷ drop (at + 3) s
  rest-three h =
      r.rest
      ∙ next-three p 0 h
      ∙ ap (λ (l : List ℕ). get_or p 0 0 ∷ get_or p 1 0 ∷ get_or p 2 0 ∷ l) (ap (drop 3) (sym r.rest) ∙ drop-drop 3 at s)
