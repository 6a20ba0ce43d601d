-- Lines as the theory of groups sees them: for each in order, the accepted GSV line that it is, or other.
use Rattle.std.specs.Prelude.{ℕ, List, map, get_or}
use Rattle.std.proofs.Math.Option.{Option, none, some}
use Rattle.gsv.specs.Gsv.{Satellite, GsvSentence}
use Rattle.groups.specs.Log.{Line, gsv, other, Handed as Out}
use Rattle.rows.specs.Key.{key_of}
use Rattle.rows.specs.Line.{line_of}
use Rattle.gather.specs.Words.{group_of}
use Rattle.gather.specs.Table.{row_of}
use Rattle.gather.specs.declared.line.Outcome.{Outcome}
use Rattle.gather.specs.declared.line.Outcome.TheVariants.{NoRow, Nothing, Waiting, Complete}
use Rattle.fed.specs.Line.{LogLine, blank, accepted_gsv, Gatherer, Gathered}
use Rattle.fed.specs.Fed.{fed_at}

abbrev pub seen : Option GsvSentence → Line Satellite
seen none = other
seen (some s) = gsv (line_of s)

abbrev pub seeing : LogLine → Line Satellite
seeing s = seen (accepted_gsv s)

abbrev pub seen_of : List LogLine → List (Line Satellite)
seen_of ss = map seeing ss

-- what a line hands out: where it says that its row is complete, the words of that row are the group
abbrev pub handed_in : Outcome → ℕ → Gatherer → Option (Out Satellite)
handed_in NoRow κ t = none
handed_in Nothing κ t = none
handed_in Waiting κ t = none
handed_in Complete κ t = some (record { key = κ; group = group_of (row_of t κ) })

abbrev pub given_by : Option GsvSentence → Gathered → Option (Out Satellite)
given_by none a = none
given_by (some s) a = handed_in a.handed (key_of s) a.gatherer

abbrev pub given_at : List LogLine → ℕ → Option (Out Satellite)
given_at ss i = given_by (accepted_gsv (get_or ss i blank)) (fed_at ss i)
