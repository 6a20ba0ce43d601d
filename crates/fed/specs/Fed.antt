-- A gatherer that is fed lines, any number of them, and counts over them.
use Rattle.std.specs.Prelude.{ℕ, ◌+◌, List, [], ◌∷◌, Bool, true, false, take, get_or}
use Rattle.gather.specs.Table.{fresh_table}
use Rattle.gather.specs.declared.line.Outcome.{Outcome}
use Rattle.gather.specs.declared.line.Outcome.TheVariants.{NoRow, Nothing, Waiting, Complete}
use Rattle.fed.specs.Line.{LogLine, blank, accepted_gsv, Gatherer, Gathered, gathers}

-- a Bool as the number of times that it is so
abbrev pub once_if : Bool → ℕ
once_if true = 1
once_if false = 0

-- how many of them pass a test
abbrev pub how_many : (LogLine → Bool) → List LogLine → ℕ
how_many t [] = 0
how_many t (s ∷ ss) = once_if (t s) + how_many t ss

-- the gatherer after some lines
abbrev pub gathered : Gatherer → List LogLine → Gatherer
gathered g [] = g
gathered g (s ∷ ss) = gathered (gathers g (accepted_gsv s)).gatherer ss

-- what the line at i does: "Demand 3 speaks of place 0 and a fresh gatherer", so to one that was fresh before the first line
abbrev pub fed_at : List LogLine → ℕ → Gathered
fed_at ss i = gathers (gathered fresh_table (take i ss)) (accepted_gsv (get_or ss i blank))

abbrev pub is_handed : Outcome → Bool
is_handed NoRow = false
is_handed Nothing = false
is_handed Waiting = false
is_handed Complete = true

-- how many of them hand out a group
abbrev pub groups_of : Gatherer → List LogLine → ℕ
groups_of g [] = 0
groups_of g (s ∷ ss) = once_if (is_handed (gathers g (accepted_gsv s)).handed) + groups_of (gathers g (accepted_gsv s)).gatherer ss
