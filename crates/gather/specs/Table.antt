-- A table of rows, one behind the other: the line's own row is changed as `Put` says, and no other word.
use Rattle.std.specs.Prelude.{ℕ, ◌*◌, ◌≡◌, List, cond, eqb, length, take, drop, replicate}
use Rattle.std.proofs.lemmas.List.Edits.{sets}
use Rattle.groups.specs.Log.{Gsv}
use Rattle.groups.specs.Step.{Table}
use Rattle.gsv.specs.Gsv.{Satellite}
use Rattle.rows.specs.Key.{row_count}
use Rattle.gather.specs.Words.{row_words, meant}
use Rattle.gather.specs.Put.{row_after, outcome_of}
use Rattle.gather.specs.declared.line.Outcome.{Outcome}
use Rattle.gather.specs.declared.line.Outcome.TheVariants.{NoRow}

abbrev pub table_words : ℕ
table_words = row_count * row_words

-- before any line
abbrev pub fresh_table : List ℕ
fresh_table = replicate table_words 0

abbrev pub row_of : List ℕ → ℕ → List ℕ
row_of t κ = take row_words (drop (κ * row_words) t)

-- the table as the theory has it
abbrev pub table_of : List ℕ → Table Satellite
table_of t κ = meant (row_of t κ)

-- a table of another length stands unchanged
abbrev pub table_after : List ℕ → Gsv Satellite → List ℕ
table_after t g = cond (eqb (length t) table_words) (sets t (g.key * row_words) (row_after (row_of t g.key) g)) t

abbrev pub said_by : List ℕ → Gsv Satellite → Outcome
said_by t g = cond (eqb (length t) table_words) (outcome_of (row_of t g.key) g) NoRow

pub record Gathers (t t' : List ℕ) (g : Gsv Satellite) (r : Outcome) : Type 0 where
  pub words : t' ≡ table_after t g
  pub says : r ≡ said_by t g
