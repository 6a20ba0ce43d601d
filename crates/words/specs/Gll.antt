-- The words of a GLL sentence:
--
--     0        7, which says GLL
--     1, 2     talker
--     3 to 11  1 if there is a position; latitude; longitude
--     12 to 16 1 if there is a time; hour, minute, second, nanosecond
--     17       status
--     18       mode, 0 if absent
use Rattle.std.specs.Prelude.{ℕ, List, [], ◌∷◌, ◌++◌}
use Rattle.std.proofs.Math.Option.{get_or}
use Rattle.gll.specs.Gll.{Gll}
use Rattle.answer.specs.Sentence.{Sentence}
use Rattle.words.specs.Part.{zeros, padded, time_words, position_words}

-- 3 to 18
abbrev pub field_words : Gll → List ℕ
field_words g = position_words g.position ++ (time_words g.time ++ (g.status ∷ get_or g.mode 0 ∷ []))

abbrev pub gll_words : Sentence Gll → List ℕ
gll_words g = 7 ∷ (padded 2 g.talker ++ (field_words g.body ++ zeros 21))
