-- The line at a place, as the code finds it: the reader's answer to the bytes from the place to the cut is what the line there says.
-- Assumes nothing.
use Rattle.std.proofs.Common.{◌≡◌, ℕ, ◌+◌, ◌-◌, ◌<◌, ◌≤◌, min, List, [], ◌∷◌, length, take, drop, sym, refl, ap, ◌∙◌, arith, length-drop, length-take}
use Rattle.lines.specs.Places.{stretch, line_at, next_place}
use Rattle.lines.proofs.Next.{next-is}
use Rattle.answer.specs.Sentence.{answer}
use Rattle.fed.specs.Line.{blank, read, said_of}
use Rattle.logs.specs.Code.{CutAt}

said-read : (l : List ℕ) → 0 < length l → read (answer l) ≡ said_of l
said-read [] h = absurd (omega arith)
said-read (b ∷ l) h = refl

-- the place after a line whose stretch ends there
pub next-right : (log : List ℕ) (p end next : ℕ) → p < length log → end ≡ p + length (stretch (drop p log)) → next ≡ min (end + 1) (length log)
    → next ≡ next_place log p
next-right log p end next in' ends after =
    let e : min (end + 1) (length log) ≡ min (p + length (stretch (drop p log)) + 1) (length log) = ap (λ (k : ℕ). min (k + 1) (length log)) ends in
    let h : p ≤ length log = omega arith in
    after ∙ e ∙ sym (next-is log p h)

-- the line at p, which runs to cut
module _ (log : List ℕ) (p cut : ℕ) (in' : p < length log) (line : CutAt log p cut) where
  pub blank-here : cut ≡ p → blank ≡ said_of (line_at log p)
  blank-here e =
      let z : cut - p ≡ 0 = omega arith in
      sym (ap said_of (line.line ∙ ap (λ (k : ℕ). take k (drop p log)) z))

  pub read-here : (cut ≡ p → ⊥) → (text : List ℕ) → text ≡ take (cut - p) (drop p log) → read (answer text) ≡ said_of (line_at log p)
  read-here n text e =
      let m : length (line_at log p) ≡ min (cut - p) (length log - p) =
      ap length line.line ∙ length-take (cut - p) (drop p log) ∙ ap (min (cut - p)) (length-drop p log) in
      let k : 0 < length (line_at log p) = omega (arith, line.after, line.within) in
      ap (λ (t : List ℕ). read (answer t)) (e ∙ sym line.line) ∙ said-read (line_at log p) k
