-- THE RULE ON LENT ROWS, as 01 says it: the words of a row count exactly where byte strings, accepted, leave in a fresh table what they hold;
-- all others count as empty. Assumes nothing.
use Prim.Native.Nat.{ℕ, ◌<◌}
use mathlib.Core.Path.{◌≡◌, refl, ap, ◌∙◌, subst}
use mathlib.Core.Logic.{◌↔◌}
use mathlib.Core.List.{List, [], ◌∷◌}
use mathlib.Core.Bool.{Bool, true, false, ◌&&◌, cond}
use mathlib.Core.Option.{Option, none, some}
use borrow.Author.Tests.{eq-eqb}
use lib.Dec.{eqb}
use lib.ListN.{length, length-replicate}
use Rattle.groups.specs.Log.{Gsv, own, keep}
use Rattle.groups.specs.Step.{Open, Table, step, fresh, after}
use Rattle.groups.specs.Left.{All, left}
use Rattle.groups.proofs.Fold.{outs, holding, outs-row, after-own}
use Rattle.gsv.specs.Gsv.{Satellite, GsvSentence}
use Rattle.rows.specs.Key.{row_count}
use Rattle.rows.specs.Line.{line_of}
use Rattle.rows.specs.Leave.{Line, leavable, Stands}
use Rattle.short.specs.Room.{Written}
use Rattle.gather.specs.Words.{open_of, stands, meant}
use Rattle.gather.specs.Table.{table_words, fresh_table, row_of, table_of}
use Rattle.gather.specs.Run.{run, LeftIn}
use Rattle.gather.proofs.Decode.{meant-stands, stands-exactly}
use Rattle.gather.proofs.Tables.{log_of, run-meaning, zero-fresh}

-- the row that lines leave in a fresh table means the run that the theory leaves
left-row : (ss : List GsvSentence) (κ : ℕ) → All Written ss → table_of (run fresh_table ss) κ ≡ after fresh (log_of ss) κ
left-row ss κ w =
    (λ j. run-meaning fresh_table ss w (length-replicate {A = ℕ} table_words 0) j κ) ∙ ap (λ (t : Table Satellite). after t (log_of ss) κ) zero-fresh

-- the sentences of lines of one row
sentences : (κ : ℕ) (gs : List (Gsv Satellite)) → All (Line κ) gs → List GsvSentence
sentences κ [] w = []
sentences κ (g ∷ gs) w = w.0.sentence ∷ sentences κ gs w.1

all-written : (κ : ℕ) (gs : List (Gsv Satellite)) (w : All (Line κ) gs) → All Written (sentences κ gs w)
unfolding sentences
all-written κ [] w = tt
all-written κ (g ∷ gs) w = (w.0.written, all-written κ gs w.1)

own-all : (κ : ℕ) (gs : List (Gsv Satellite)) (w : All (Line κ) gs) → own κ (log_of (sentences κ gs w)) ≡ gs
unfolding sentences
own-all κ [] w = refl
own-all κ (g ∷ gs) w =
    let e : eqb (line_of w.0.sentence).key κ ≡ true = eq-eqb _ _ (ap (λ (g : Gsv Satellite). g.key) w.0.says ∙ w.0.mine) in
    ap (λ (b : Bool). keep b (line_of w.0.sentence) (own κ (log_of (sentences κ gs w.1)))) e
    ∙ (λ i. w.0.says i ∷ own-all κ gs w.1 i)

outs-left : (r : Option (Open Satellite)) (gs : List (Gsv Satellite)) → (outs (holding r) gs).row ≡ left r gs
outs-left r [] = refl
outs-left r (g ∷ gs) = outs-row (step r g) (holding (step r g).row) gs refl ∙ outs-left (step r g).row gs

-- what a table's row means can be left, so words that hold the same stand
pub left-stands : (ws : List ℕ) (t : List ℕ) (κ : ℕ) → length ws ≡ 148 → table_of t κ ≡ some (open_of ws) → stands ws ≡ true
left-stands ws t κ long e =
    let s : leavable (open_of ws) ≡ true = subst (λ (r : Option (Open Satellite)). Stands r) e (meant-stands (row_of t κ)) in
    (λ j. eq-eqb (length ws) 148 long j && s j)

-- THE THEOREM
pub lent-exactly : (κ : ℕ) → κ < row_count → (ws : List ℕ) → length ws ≡ 148 → (stands ws ≡ true) ↔ LeftIn κ ws
lent-exactly κ h ws long = (
  λ e.
      let x = (stands-exactly κ h ws long).0 e in
      let ss = sentences κ x.lines x.given in
      record {
        lines = ss;
        written = all-written κ x.lines x.given;
        leaves =
            left-row ss κ (all-written κ x.lines x.given)
            ∙ after-own fresh (log_of ss) κ
            ∙ ap (λ (gs : List (Gsv Satellite)). (outs (holding none) gs).row) (own-all κ x.lines x.given)
            ∙ outs-left none x.lines
            ∙ x.leaves;
      },
  λ l. left-stands ws (run fresh_table l.lines) κ long l.leaves,
)

-- "a row of a lent gatherer that no run of lines could leave counts as empty"
pub counts-as-empty : (κ : ℕ) → κ < row_count → (ws : List ℕ) → length ws ≡ 148 → (LeftIn κ ws → ⊥) → meant ws ≡ none
counts-as-empty κ h ws long never = by (stands ws) refl
  where
    by : (b : Bool) → stands ws ≡ b → cond b (some (open_of ws)) none ≡ none
    by true e = absurd (never ((lent-exactly κ h ws long).0 e))
    by false e = refl
