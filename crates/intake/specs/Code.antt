-- For the code, not for a reader of the scope.
use Rattle.std.specs.Prelude.{◌≡◌, ℕ, List, Option, Result}
use Rattle.frame.specs.declared.refusal.Refusal.{Refusal}
use Rattle.answer.specs.Sentence.{Answer, is_rmc, is_gsa, is_gsv, is_gga, is_gll, is_vtg, is_other, is_refused}
use Rattle.fed.specs.Line.{gathers}
use Rattle.words.specs.Words.{words, into}
use Rattle.intake.specs.Brief.{brief_of, gsv_in}
use Rattle.intake.specs.Answer.{brief, outcome_of}
use Rattle.intake.specs.declared.GsvLine.{GsvLine}

-- a buffer before a refusal is put into it
abbrev pub record_into : Answer → List ℕ → List ℕ
record_into (is_rmc r) out = into (words (is_rmc r)) out
record_into (is_gsa g) out = into (words (is_gsa g)) out
record_into (is_gsv g) out = into (words (is_gsv g)) out
record_into (is_gga g) out = into (words (is_gga g)) out
record_into (is_gll g) out = into (words (is_gll g)) out
record_into (is_vtg v) out = into (words (is_vtg v)) out
record_into (is_other o) out = into (words (is_other o)) out
record_into (is_refused r) out = out

pub record Tells (a : Answer) (out out' t t' : List ℕ) (r : Result (Option GsvLine) Refusal) : Type 0 where
  pub says : brief r ≡ brief_of a
  pub words : out' ≡ record_into a out
  pub table : t' ≡ (gathers t (gsv_in a)).gatherer
  pub handed : outcome_of r ≡ (gathers t (gsv_in a)).handed

-- no line of a type that touches a table
abbrev pub Quiet : Answer → List ℕ → List ℕ → Result (Option GsvLine) Refusal → Type 0
Quiet a out out' r = (t : List ℕ) → Tells a out out' t t r
