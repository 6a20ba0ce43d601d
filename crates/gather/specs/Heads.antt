-- A run by its head alone, as the theory has it: a run without entries.
use Rattle.std.specs.Prelude.{ℕ, ◌+◌, ◌*◌, ◌<◌, ◌≡◌, List, [], Bool, ◌&&◌, cond, eqb, leb, length, get_or, set}
use Rattle.std.proofs.Math.Option.{Option, none, some}
use Rattle.groups.specs.Log.{line_max, Gsv}
use Rattle.groups.specs.Step.{Open, Out, step}
use Rattle.gsv.specs.Talker.{Talker}
use Rattle.gsv.specs.Gsv.{Satellite, Head}
use Rattle.rows.specs.Key.{source_from, row_from, row_count}
use Rattle.gather.specs.Put.{told}
use Rattle.gather.specs.Table.{table_words, table_of}
use Rattle.gather.specs.declared.line.Outcome.{Outcome}
use Rattle.gather.specs.declared.line.Outcome.TheVariants.{NoRow}
use Rattle.gather.specs.declared.run.Run.{Run}
use Rattle.gather.specs.declared.run.RunAfter.{RunAfter}

-- a line with this head, and no entries
abbrev pub head_line : Head → Gsv Satellite
head_line h = record { key = 0; n = h.count; number = h.index; view = h.view; sats = [] }

-- a line can leave it: the number waited for is from 2 to n, and n is at most 9
abbrev pub run_stands : Run → Bool
run_stands r = leb 2 r.next && (leb r.next r.n && leb r.n line_max)

abbrev pub run_meant : Run → Option (Open Satellite)
run_meant r = cond (run_stands r) (some (record { n = r.n; next = r.next; view = r.view; sats = [] })) none

abbrev pub no_run : Run
no_run = record { n = 0; next = 0; view = 0 }

abbrev pub run_of : Option (Open Satellite) → Run
run_of none = no_run
run_of (some o) = record { n = o.n; next = o.next; view = o.view }

abbrev pub out_of : Out Satellite → RunAfter
out_of o = record { run = run_of o.row; handed = told o }

-- what a line does to the run
abbrev pub run_after : Run → Head → RunAfter
run_after r h = out_of (step (run_meant r) (head_line h))

-- a run without its entries
abbrev pub bare : Option (Open Satellite) → Option (Open Satellite)
bare none = none
bare (some o) = some (record { n = o.n; next = o.next; view = o.view; sats = [] })

-- the words of heads: three for each row of a table
abbrev pub head_words : ℕ
head_words = row_count * 3

abbrev pub run_at : List ℕ → ℕ → Run
run_at ws κ = record { n = get_or ws (κ * 3) 0; next = get_or ws (κ * 3 + 1) 0; view = get_or ws (κ * 3 + 2) 0 }

abbrev pub set_run : List ℕ → ℕ → Run → List ℕ
set_run ws κ r = set (set (set ws (κ * 3) r.n) (κ * 3 + 1) r.next) (κ * 3 + 2) r.view

-- words of another length stand unchanged
pub record GathersHead (ws ws' : List ℕ) (t : Talker) (h : Head) (r : Outcome) : Type 0 where
  pub words : ws' ≡ cond (eqb (length ws) head_words) (set_run ws (row_from (source_from t)) (run_after (run_at ws (row_from (source_from t))) h).run) ws
  pub says : r ≡ cond (eqb (length ws) head_words) (run_after (run_at ws (row_from (source_from t))) h).handed NoRow

-- each head is that of the table's run
pub record Matches (ws t : List ℕ) : Type 0 where
  pub long : length t ≡ table_words
  pub few : length ws ≡ head_words
  pub each : (κ : ℕ) → κ < row_count → run_meant (run_at ws κ) ≡ bare (table_of t κ)
