-- A line goes on behind bytes that are no line feeds. Assumes nothing.
use Rattle.std.proofs.Common.{◌≡◌, ℕ, suc, ◌+◌, ◌-◌, ◌<◌, ◌≤◌, List, length, get_or, take, drop, ap, ◌∙◌, arith, length-take, length-drop}
use Rattle.std.proofs.lemmas.List.{get_or-take, get_or-drop}
use Rattle.lines.specs.Places.{stretch}
use Rattle.lines.proofs.Scan.{stretch-more}

module _ (log : List ℕ) (p : ℕ) where
  -- the bytes looked at
  pub block-long : (n : ℕ) → p + n ≤ length log → length (take (p + n - p) (drop p log)) ≡ n
  block-long n h = omega (arith, length-take (p + n - p) (drop p log), length-drop p log)

  pub block-byte : (n j : ℕ) → j < n → get_or (take (p + n - p) (drop p log)) j 0 ≡ get_or log (p + j) 0
  block-byte n j h = get_or-take (p + n - p) (drop p log) j 0 (omega arith) ∙ get_or-drop p log j 0

  pub clear-none : length (stretch (drop p log)) ≡ 0 + length (stretch (drop (p + 0) log))
  clear-none =
      let z : p ≡ p + 0 = omega arith in
      let e : length (stretch (drop p log)) ≡ length (stretch (drop (p + 0) log)) = ap (λ (k : ℕ). length (stretch (drop k log))) z in
      omega (arith, e)

  pub clear-more : (j : ℕ) → p + j < length log → (get_or log (p + j) 0 ≡ 10 → ⊥) → length (stretch (drop p log)) ≡ j + length (stretch (drop (p + j) log))
      → length (stretch (drop p log)) ≡ j + 1 + length (stretch (drop (p + (j + 1)) log))
  clear-more j h n e =
      let z : p + j + 1 ≡ p + (j + 1) = omega arith in
      let m : length (stretch (drop (p + j) log)) ≡ suc (length (stretch (drop (p + (j + 1)) log))) =
      stretch-more log (p + j) h n ∙ ap (λ (k : ℕ). suc (length (stretch (drop k log)))) z in
      omega (arith, e, m)
