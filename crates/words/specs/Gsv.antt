-- The words of a GSV sentence:
--
--     0        3, which says GSV
--     1, 2     talker
--     3        system, by its number (docs/LISTS.md)
--     4        sentences of the group
--     5        which of them this is
--     6        satellites in view
--     7 to 14  first entry: 1 if it is present, satellite, then elevation, azimuth and signal, each with a 1 before it if it is present
--     15 to 22, 23 to 30, 31 to 38   second, third and fourth entry
use Rattle.std.specs.Prelude.{ℕ, List, ◌∷◌, ◌++◌}
use Rattle.std.proofs.Math.Option.{Option}
use Rattle.gsv.specs.Talker.{letters_of, system_of, system_number}
use Rattle.gsv.specs.Gsv.{Satellite, Gsv, GsvSentence}
use Rattle.words.specs.Part.{zeros, padded, present, option_words}

abbrev pub satellite_words : Satellite → List ℕ
satellite_words s = s.id ∷ (option_words s.elevation ++ (option_words s.azimuth ++ option_words s.signal))

abbrev pub entry_words : Option Satellite → List ℕ
entry_words s = present 7 satellite_words s

-- 7 to 38
abbrev pub entries_words : Gsv → List ℕ
entries_words b = entry_words b.first ++ (entry_words b.second ++ (entry_words b.third ++ entry_words b.fourth))

-- 3 to 38
abbrev pub body_words : GsvSentence → List ℕ
body_words g =
    system_number (system_of g.talker) ∷ g.body.count ∷ g.body.index ∷ g.body.view ∷ entries_words g.body

abbrev pub gsv_words : GsvSentence → List ℕ
gsv_words g = 3 ∷ (padded 2 (letters_of g.talker) ++ (body_words g ++ zeros 1))
