-- One byte changed within a line, to one that is no line feed: the lines of the log are what they were, but for that line. Behind the
-- changed byte another of the line stands, so that the carriage return that is dropped is not touched. Assumes nothing.
use Prim.Native.Nat.{ℕ, zero, suc, ◌+◌, ◌-◌, ◌≤◌, ◌<◌}
use native.Mathlib.Omega.{arith}
use mathlib.Core.Path.{◌≡◌, refl, ap, sym, ◌∙◌}
use mathlib.Core.Logic.{◌⊎◌, inl, inr}
use mathlib.Core.List.{List, [], ◌∷◌, ◌++◌}
use mathlib.Core.Bool.{Bool, true, false, cond, ◌||◌}
use borrow.Author.Tests.{eqb-true, ne_eqb}
use lib.Dec.{eqb}
use lib.ListN.{length, take, drop, get_or, set, length-set, take-append-drop, drop_of_length-le}
use lib.Seq.{get_or-set_other, take-set-lt}
use Rattle.lines.specs.Lines.{trim, lines, Whole}
use Rattle.lines.specs.Places.{is_place, stretch, rest, line_at}
use Rattle.lines.proofs.Split.{first-line, stretch-short}
use Rattle.lines.proofs.Append.{lines-append}

-- in the first stretch of a text
set-stretch : (l : List ℕ) (k b : ℕ) → k < length (stretch l) → (b ≡ 10 → ⊥) → stretch (set l k b) ≡ set (stretch l) k b
unfolding stretch
set-stretch [] k b h n = refl
set-stretch (x ∷ l) zero b h n = go (eqb x 10) h
  where
    go : (t : Bool) → 0 < length (cond t [] (x ∷ stretch l)) → cond (eqb b 10) [] (b ∷ stretch l) ≡ set (cond t [] (x ∷ stretch l)) 0 b
    go true h = absurd (omega arith)
    go false h = ap (λ (t : Bool). cond t [] (b ∷ stretch l)) (ne_eqb b 10 n)
set-stretch (x ∷ l) (suc k) b h n = go (eqb x 10) h (λ j. set-stretch l k b j n)
  where
    go : (t : Bool) → suc k < length (cond t [] (x ∷ stretch l)) → (k < length (stretch l) → stretch (set l k b) ≡ set (stretch l) k b)
        → cond t [] (x ∷ stretch (set l k b)) ≡ set (cond t [] (x ∷ stretch l)) (suc k) b
    go true h ih = absurd (omega arith)
    go false h ih = ap (λ (r : List ℕ). x ∷ r) (ih (omega arith))

set-rest : (l : List ℕ) (k b : ℕ) → k < length (stretch l) → (b ≡ 10 → ⊥) → rest (set l k b) ≡ rest l
unfolding stretch rest
set-rest [] k b h n = refl
set-rest (x ∷ l) zero b h n = go (eqb x 10) h
  where
    go : (t : Bool) → 0 < length (cond t [] (x ∷ stretch l)) → cond (eqb b 10) l (rest l) ≡ cond t l (rest l)
    go true h = absurd (omega arith)
    go false h = ap (λ (t : Bool). cond t l (rest l)) (ne_eqb b 10 n)
set-rest (x ∷ l) (suc k) b h n = go (eqb x 10) h (λ j. set-rest l k b j n)
  where
    go : (t : Bool) → suc k < length (cond t [] (x ∷ stretch l)) → (k < length (stretch l) → rest (set l k b) ≡ rest l)
        → cond t (set l k b) (rest (set l k b)) ≡ cond t l (rest l)
    go true h ih = absurd (omega arith)
    go false h ih = ih (omega arith)

set-trim : (s : List ℕ) (k b : ℕ) → suc k < length s → trim (set s k b) ≡ set (trim s) k b
unfolding trim
set-trim s k b h =
    let e : length (set s k b) ≡ length s = length-set s k b in
    ap (λ (n : ℕ). cond (eqb (get_or (set s k b) (n - 1) 0) 13) (take (n - 1) (set s k b)) (set s k b)) e
    ∙ ap (λ (c : ℕ). cond (eqb c 13) (take (length s - 1) (set s k b)) (set s k b)) (get_or-set_other s k (length s - 1) b 0 (λ q. omega arith))
    ∙ ap (λ (l : List ℕ). cond (eqb (get_or s (length s - 1) 0) 13) l (set s k b)) (take-set-lt (length s - 1) s k b (omega arith))
    ∙ go (eqb (get_or s (length s - 1) 0) 13)
  where
    go : (t : Bool) → cond t (set (take (length s - 1) s) k b) (set s k b) ≡ set (cond t (take (length s - 1) s) s) k b
    go true = refl
    go false = refl

trim-short : (s : List ℕ) → length (trim s) ≤ length s
unfolding trim
trim-short s = go (eqb (get_or s (length s - 1) 0) 13)
  where
    shorter : (m : ℕ) (l : List ℕ) → length (take m l) ≤ length l
    shorter zero l = omega arith
    shorter (suc m) [] = omega arith
    shorter (suc m) (x ∷ l) = omega (arith, shorter m l)

    go : (t : Bool) → length (cond t (take (length s - 1) s) s) ≤ length s
    go true = shorter (length s - 1) s
    go false = omega arith

-- what stands before a place is made of whole lines
ends-in : (log : List ℕ) (i : ℕ) → get_or log i 0 ≡ 10 → take (suc i) log ≡ take i log ++ (10 ∷ [])
ends-in [] zero e = absurd (omega arith)
ends-in [] (suc i) e = absurd (omega arith)
ends-in (x ∷ l) zero e = ap (λ (c : ℕ). c ∷ []) e
ends-in (x ∷ l) (suc i) e = ap (λ (r : List ℕ). x ∷ r) (ends-in l i e)

pub whole-before : (log : List ℕ) (p : ℕ) → is_place log p ≡ true → Whole (take p log) ⊎ (drop p log ≡ [])
unfolding is_place Whole
whole-before log zero e = inl (inl refl)
whole-before log (suc i) e = go (eqb (suc i) (length log)) refl e
  where
    go : (t : Bool) → eqb (suc i) (length log) ≡ t → eqb (suc i) 0 || (t || eqb (get_or log (suc i - 1) 0) 10) ≡ true
        → Whole (take (suc i) log) ⊎ (drop (suc i) log ≡ [])
    go true q f = let z : suc i ≡ length log = eqb-true _ _ q in inr (drop_of_length-le log {i = suc i} (omega arith))
    go false q f =
        let z : suc i - 1 ≡ i = omega arith in
        let g : eqb (get_or log (suc i - 1) 0) 10 ≡ true =
        sym (ap (λ (u : Bool). u || eqb (get_or log (suc i - 1) 0) 10) (ne_eqb (suc i) 0 (λ r. omega arith))) ∙ f
        in
        inl (inr (take i log, ends-in log i (eqb-true _ _ (ap (λ (j : ℕ). eqb (get_or log j 0) 10) (sym z) ∙ g))))

-- the byte k of what stands at p
set-behind : (p : ℕ) (log : List ℕ) (k b : ℕ) → set log (p + k) b ≡ take p log ++ set (drop p log) k b
set-behind zero log k b = let z : 0 + k ≡ k = omega arith in ap (λ (j : ℕ). set log j b) z
set-behind (suc p) [] k b = refl
set-behind (suc p) (x ∷ log) k b =
    let z : suc p + k ≡ suc (p + k) = omega arith in
    ap (λ (j : ℕ). set (x ∷ log) j b) z ∙ ap (λ (r : List ℕ). x ∷ r) (set-behind p log k b)

module _ (log : List ℕ) (p : ℕ) (place : is_place log p ≡ true) where
  -- the lines before a place, the line there, and those after it
  pub lines-around : 0 < length (line_at log p) → lines log ≡ lines (take p log) ++ (line_at log p ∷ lines (rest (drop p log)))
  unfolding line_at
  lines-around h =
      ap lines (sym (take-append-drop p log))
      ∙ lines-append (take p log) (drop p log) (whole-before log p place)
      ∙ ap (λ (ls : List (List ℕ)). lines (take p log) ++ ls) (first-line (drop p log) (omega (arith, trim-short (stretch (drop p log)), stretch-short (drop p log))))

  -- THE THEOREM: only the line that has the byte is another
  pub one-byte : (k b : ℕ) → suc k < length (line_at log p) → (b ≡ 10 → ⊥)
      → lines (set log (p + k) b) ≡ lines (take p log) ++ (set (line_at log p) k b ∷ lines (rest (drop p log)))
  unfolding line_at
  one-byte k b h n =
      let d = drop p log in
      let long : suc k < length (stretch d) = omega (arith, trim-short (stretch d)) in
      let k-in : k < length (stretch d) = omega arith in
      ap lines (set-behind p log k b)
      ∙ lines-append (take p log) (set d k b) (still (whole-before log p place))
      ∙ ap (λ (ls : List (List ℕ)). lines (take p log) ++ ls)
      (first-line (set d k b) (omega (arith, stretch-short d, length-set d k b))
      ∙ (λ i. trim (set-stretch d k b k-in n i) ∷ lines (set-rest d k b k-in n i))
      ∙ ap (λ (l : List ℕ). l ∷ lines (rest d)) (set-trim (stretch d) k b long))
    where
      still : Whole (take p log) ⊎ (drop p log ≡ []) → Whole (take p log) ⊎ (set (drop p log) k b ≡ [])
      still (inl w) = inl w
      still (inr e) = inr (ap (λ (l : List ℕ). set l k b) e)
