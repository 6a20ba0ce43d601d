-- A byte string with no line feed, and no carriage return at its end, is the one line of the log that it makes with a line feed: nothing
-- cuts it, and nothing is dropped. Assumes nothing.
use Prim.Native.Nat.{ℕ, suc}
use mathlib.Core.Path.{◌≡◌, refl, ap, ◌∙◌}
use mathlib.Core.List.{List, [], ◌∷◌, ◌++◌, map}
use mathlib.Core.Bool.{Bool, cond}
use borrow.Author.Tests.{ne_eqb}
use lib.ListN.{get_or}
use Rattle.lines.specs.Lines.{line_feed, onto, stretches, trim, lines, Lined}
use Rattle.lines.proofs.Scan.{trim-plain}

uncut : (l : List ℕ) → ((i : ℕ) → get_or l i 0 ≡ line_feed → ⊥) → stretches (l ++ (line_feed ∷ [])) ≡ l ∷ []
unfolding stretches
uncut [] n = refl
uncut (b ∷ l) n =
    let r = stretches (l ++ (line_feed ∷ [])) in
    ap (λ (t : Bool). cond t ([] ∷ r) (onto b r)) (ne_eqb b line_feed (n 0)) ∙ ap (onto b) (uncut l (λ i. n (suc i)))

-- THE THEOREM
pub alone : (l : List ℕ) → Lined l → lines (l ++ (line_feed ∷ [])) ≡ l ∷ []
unfolding lines
alone l h = ap (map trim) (uncut l h.no-feed) ∙ ap (λ (s : List ℕ). s ∷ []) (trim-plain l h.no_return)
