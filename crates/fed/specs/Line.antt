-- What a line is, and what it does to the gatherer.
use Rattle.std.specs.Prelude.{ℕ, List, [], ◌∷◌, map, Bool, true, false}
use Rattle.std.proofs.Math.Option.{Option, none, some}
use Rattle.gsv.specs.Gsv.{GsvSentence}
use Rattle.answer.specs.Sentence.{Answer, is_rmc, is_gsa, is_gsv, is_gga, is_gll, is_vtg, is_other, is_refused, answer}
use Rattle.rows.specs.Line.{line_of}
use Rattle.gather.specs.Table.{table_after, said_by}
use Rattle.gather.specs.declared.line.Outcome.{Outcome}
use Rattle.gather.specs.declared.line.Outcome.TheVariants.{Nothing}

pub data LogLine : Type 0 where
  blank : LogLine
  read : Answer → LogLine

-- "a line then empty is blank"; what another says is the reader's to say
abbrev pub said_of : List ℕ → LogLine
said_of [] = blank
said_of (b ∷ l) = read (answer (b ∷ l))

abbrev pub said_all : List (List ℕ) → List LogLine
said_all ls = map said_of ls

-- "lines are blank, accepted or refused, each counted from the log"
abbrev pub is_blank : LogLine → Bool
is_blank blank = true
is_blank (read a) = false

abbrev pub is_refusal : LogLine → Bool
is_refusal blank = false
is_refusal (read (is_rmc r)) = false
is_refusal (read (is_gsa g)) = false
is_refusal (read (is_gsv s)) = false
is_refusal (read (is_gga g)) = false
is_refusal (read (is_gll g)) = false
is_refusal (read (is_vtg v)) = false
is_refusal (read (is_other k)) = false
is_refusal (read (is_refused r)) = true

-- "Other is accepted"
abbrev pub is_accepted : LogLine → Bool
is_accepted blank = false
is_accepted (read (is_rmc r)) = true
is_accepted (read (is_gsa g)) = true
is_accepted (read (is_gsv s)) = true
is_accepted (read (is_gga g)) = true
is_accepted (read (is_gll g)) = true
is_accepted (read (is_vtg v)) = true
is_accepted (read (is_other k)) = true
is_accepted (read (is_refused r)) = false

-- the accepted GSV sentence that a line is
abbrev pub accepted_gsv : LogLine → Option GsvSentence
accepted_gsv blank = none
accepted_gsv (read (is_rmc r)) = none
accepted_gsv (read (is_gsa g)) = none
accepted_gsv (read (is_gsv s)) = some s
accepted_gsv (read (is_gga g)) = none
accepted_gsv (read (is_gll g)) = none
accepted_gsv (read (is_vtg v)) = none
accepted_gsv (read (is_other k)) = none
accepted_gsv (read (is_refused r)) = none

-- the gatherer is the words that are lent
abbrev pub Gatherer : Type 0
Gatherer = List ℕ

-- the words after a line, and what it says of its row
pub record Gathered : Type 0 where
  pub gatherer : Gatherer
  pub handed : Outcome

abbrev pub untouched : Gatherer → Gathered
untouched g = record { gatherer = g; handed = Nothing }

-- only an accepted GSV line does anything
abbrev pub gathers : Gatherer → Option GsvSentence → Gathered
gathers g none = untouched g
gathers g (some s) = record { gatherer = table_after g (line_of s); handed = said_by g (line_of s) }
