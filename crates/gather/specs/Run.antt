-- A table after some accepted GSV lines, and what such lines leave in a row.
use Rattle.std.specs.Prelude.{ℕ, ◌≡◌, List, [], ◌∷◌}
use Rattle.std.proofs.Math.Option.{some}
use Rattle.groups.specs.Left.{All}
use Rattle.gsv.specs.Gsv.{GsvSentence}
use Rattle.short.specs.Room.{Written}
use Rattle.rows.specs.Line.{line_of}
use Rattle.gather.specs.Words.{open_of}
use Rattle.gather.specs.Table.{fresh_table, table_of, table_after}

-- line by line
abbrev pub run : List ℕ → List GsvSentence → List ℕ
run t [] = t
run t (h ∷ hs) = run (table_after t (line_of h)) hs

-- AS THE SCOPE SAYS IT: byte strings, each accepted as a GSV line, leave in row κ of a fresh table the run that these words hold
pub record LeftIn (κ : ℕ) (ws : List ℕ) : Type 0 where
  pub lines : List GsvSentence
  pub written : All Written lines
  pub leaves : table_of (run fresh_table lines) κ ≡ some (open_of ws)
