-- THE RULE ON LENT ROWS, over logs: the words of a row count exactly where the lines of some log leave in a fresh table what they hold. The
-- lines that `lent-exactly` finds make a log with their line feeds; and whatever a log's lines are, what a row means can be left.
-- Assumes nothing.
use Rattle.std.proofs.Common.{◌≡◌, ℕ, ◌<◌, true, ◌↔◌, List, [], ◌∷◌, ◌++◌, length, refl, ap, ◌∙◌, inl, inr, arith}
use mathlib.Core.Option.{Option, some}
use Rattle.frame.proofs.Within.{star-within}
use Rattle.groups.specs.Left.{All}
use Rattle.lines.specs.Lines.{line_feed, lines, Whole}
use Rattle.lines.proofs.Split.{no-lines}
use Rattle.lines.proofs.Append.{lines-append}
use Rattle.lines.proofs.Alone.{alone}
use Rattle.rows.specs.Key.{row_count}
use Rattle.gsv.specs.Gsv.{GsvSentence}
use Rattle.answer.specs.Sentence.{answer, is_gsv}
use Rattle.short.specs.Room.{Written}
use Rattle.short.proofs.Answered.{answered}
use Rattle.gather.specs.Words.{open_of, stands}
use Rattle.gather.specs.Table.{fresh_table, table_of}
use Rattle.gather.specs.Run.{run}
use Rattle.gather.proofs.LentRows.{left-stands, lent-exactly}
use Rattle.fed.specs.Line.{read, said_of, said_all, accepted_gsv, Gatherer, gathers}
use Rattle.fed.specs.Fed.{gathered}
use Rattle.logs.specs.Told.{says}

-- the lines of some log leave in row κ of a fresh table the run that these words hold
pub record LeftByLog (κ : ℕ) (ws : List ℕ) : Type 0 where
  pub log : List ℕ
  pub leaves : table_of (gathered fresh_table (says log)) κ ≡ some (open_of ws)

-- what is accepted is no blank line
accepted-said : (l : List ℕ) (s : GsvSentence) → answer l ≡ is_gsv s → accepted_gsv (said_of l) ≡ some s
accepted-said [] s e = let a = answered [] s e in absurd (omega (arith, star-within [] a.parts a.framed))
accepted-said (b ∷ l) s e = ap (λ a. accepted_gsv (read a)) e

-- lines, each with its line feed
text : (ss : List GsvSentence) → All Written ss → List ℕ
text [] w = []
text (s ∷ ss) w = (w.0.line ++ (line_feed ∷ [])) ++ text ss w.1

ends-whole : (l : List ℕ) → Whole (l ++ (line_feed ∷ []))
unfolding Whole
ends-whole l = inr (l, refl)

-- feed the gatherer their sentences
text-fed : (g : Gatherer) (ss : List GsvSentence) (w : All Written ss) → gathered g (says (text ss w)) ≡ run g ss
unfolding text
text-fed g [] w = ap (λ (ls : List (List ℕ)). gathered g (said_all ls)) no-lines
text-fed g (s ∷ ss) w =
    let l = w.0.line in
    let more = text ss w.1 in
    let e : lines ((l ++ (line_feed ∷ [])) ++ more) ≡ l ∷ lines more =
    lines-append (l ++ (line_feed ∷ [])) more (inl (ends-whole l)) ∙ ap (λ (ls : List (List ℕ)). ls ++ lines more) (alone l w.0.lined) in
    ap (λ (ls : List (List ℕ)). gathered g (said_all ls)) e
    ∙ ap (λ (f : Option GsvSentence). gathered (gathers g f).gatherer (says more)) (accepted-said l s w.0.accepted)
    ∙ text-fed (gathers g (some s)).gatherer ss w.1

-- THE THEOREM
pub lent-by-log : (κ : ℕ) → κ < row_count → (ws : List ℕ) → length ws ≡ 148 → (stands ws ≡ true) ↔ LeftByLog κ ws
lent-by-log κ h ws long = (
  λ e.
      let l = (lent-exactly κ h ws long).0 e in
      record {
        log = text l.lines l.written;
        leaves = ap (λ (t : Gatherer). table_of t κ) (text-fed fresh_table l.lines l.written) ∙ l.leaves;
      },
  λ l. left-stands ws (gathered fresh_table (says l.log)) κ long l.leaves,
)
