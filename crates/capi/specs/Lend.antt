-- A table that is lent, for C and Rust: made fresh, given a line, and a row of it read.
use Rattle.std.specs.Prelude.{◌≡◌, ℕ, ◌+◌, ◌-◌, ◌*◌, Bool, cond, ◌&&◌, List, [], ◌∷◌, ◌++◌, length, drop, ◌==◌, nat_le, nat_lt, slice_index}
use Rattle.std.proofs.Math.Option.{Option, none, some}
use Rattle.gsv.specs.Gsv.{Satellite, GsvSentence}
use Rattle.answer.specs.Sentence.{answer}
use Rattle.rows.specs.Key.{key_of, row_count}
use Rattle.gather.specs.Words.{cell_count, sats_from}
use Rattle.gather.specs.Table.{table_words, fresh_table, row_of}
use Rattle.gather.specs.declared.line.Outcome.{Outcome}
use Rattle.gather.specs.declared.line.Outcome.TheVariants.{NoRow, Nothing, Waiting, Complete}
use Rattle.fed.specs.Line.{Gathered, gathers}
use Rattle.intake.specs.Brief.{gsv_in}
use Rattle.words.specs.Part.{zeros}
use Rattle.words.specs.Gsv.{entry_words}
use Rattle.words.specs.Words.{word_count, words}
use Rattle.capi.specs.Answer.{done, undone}

-- `nmea_fresh`: a table of another length is left as it is
pub record Freshened (t t' : List ℕ) (r : ℕ) : Type 0 where
  pub table : t' ≡ cond (length t == table_words) fresh_table t
  pub says : r ≡ cond (length t == table_words) done undone

-- 1 no run stands, 2 another line is waited for, 3 and the row's number: that row is a group
abbrev pub code : Outcome → ℕ → ℕ
code NoRow κ = 1
code Nothing κ = 1
code Waiting κ = 2
code Complete κ = 3 + κ

-- 0: no accepted GSV line
abbrev pub line_code : Option GsvSentence → Gathered → ℕ
line_code none a = 0
line_code (some s) a = code a.handed (key_of s)

-- `nmea_gather`: room for the words of an answer, and a table
abbrev pub takes : List ℕ → List ℕ → Bool
takes out t = nat_le word_count (length out) && length t == table_words

-- then the words are the answer's and the table is as the line leaves it; else nothing is written
pub record GatheredLine (line out out' t t' : List ℕ) (r : ℕ) : Type 0 where
  pub words : out' ≡ cond (takes out t) (words (answer line) ++ drop word_count out) out
  pub table : t' ≡ cond (takes out t) (gathers t (gsv_in (answer line))).gatherer t
  pub says : r ≡ cond (takes out t) (line_code (gsv_in (answer line)) (gathers t (gsv_in (answer line)))) undone

-- the words of a row that is read: its head, and an entry for each cell
abbrev pub head_words : ℕ
head_words = 5

abbrev pub entry_long : ℕ
entry_long = 8

abbrev pub row_room : ℕ
row_room = head_words + cell_count * entry_long

-- row 0 to 4: the system's number, n, the number waited for, in view, and the count
abbrev pub row_head : ℕ → List ℕ → List ℕ
row_head κ ws = (κ + 1) ∷ slice_index ws 0 ∷ slice_index ws 1 ∷ slice_index ws 2 ∷ slice_index ws 3 ∷ []

-- row 5 and on: entries as in GSV
abbrev pub entries_words : List Satellite → List ℕ
entries_words [] = []
entries_words (s ∷ ss) = entry_words (some s) ++ entries_words ss

-- and 0 behind them
abbrev pub row_read : ℕ → List ℕ → List ℕ
row_read κ ws = row_head κ ws ++ (entries_words (sats_from 0 (slice_index ws 3) ws) ++ zeros (row_room - (head_words + slice_index ws 3 * entry_long)))

-- `nmea_row`: room, a table, a row that it has, and no more entries in it than cells
abbrev pub reads : List ℕ → ℕ → List ℕ → Bool
reads t κ out =
    nat_le row_room (length out) && (length t == table_words && (nat_lt κ row_count && nat_le (slice_index (row_of t κ) 3) cell_count))

pub record RowRead (t : List ℕ) (κ : ℕ) (out out' : List ℕ) (r : ℕ) : Type 0 where
  pub words : out' ≡ cond (reads t κ out) (row_read κ (row_of t κ) ++ drop row_room out) out
  pub says : r ≡ cond (reads t κ out) done undone
