-- For the code, not for a reader of the scope.
use Rattle.std.specs.Prelude.{◌≡◌, ℕ, cond, List, ◌++◌, drop, nat_le, slice_index, Option, Some, None, Result, Ok, Err}
use Rattle.frame.specs.declared.refusal.Refusal.{Refusal}
use Rattle.gsv.specs.Answer.{talker}
use Rattle.rows.specs.Key.{source_from, row_from}
use Rattle.gather.specs.Words.{cell_count}
use Rattle.intake.specs.declared.GsvLine.{GsvLine}
use Rattle.capi.specs.Answer.{done, undone}
use Rattle.capi.specs.Lend.{code, row_room, row_read}

-- what a line that was taken did, as a number
abbrev pub taken_code : Result (Option GsvLine) Refusal → ℕ
taken_code (Ok None) = 0
taken_code (Ok (Some g)) = code g.outcome (row_from (source_from (talker g.talker)))
taken_code (Err r) = 0

-- what `nmea_row` writes and answers, of a row's words and where there is room
pub record ReadAs (ws : List ℕ) (κ : ℕ) (out out' : List ℕ) (r : ℕ) : Type 0 where
  pub words : out' ≡ cond (nat_le (slice_index ws 3) cell_count) (row_read κ ws ++ drop row_room out) out
  pub says : r ≡ cond (nat_le (slice_index ws 3) cell_count) done undone
