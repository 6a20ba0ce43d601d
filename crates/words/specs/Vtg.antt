-- The words of a VTG sentence:
--
--     0        8, which says VTG
--     1, 2     talker
--     3 to 7   1 if there is a course; the course
--     8 to 14  1 if there is a speed; the letter of its unit, `N` or `K`, the speed as it is written, its f32 in knots
use Rattle.std.specs.Prelude.{ℕ, List, [], ◌∷◌, ◌++◌}
use Rattle.std.proofs.Math.Option.{Option}
use Rattle.vtg.specs.Vtg.{Speed, Vtg}
use Rattle.answer.specs.Sentence.{Sentence}
use Rattle.words.specs.Part.{zeros, padded, present, bits32, dop_words, short_words}

-- 8 to 14
abbrev pub unit_words : Speed → List ℕ
unit_words s = s.unit ∷ (dop_words s.written ++ (bits32 s.knots ∷ []))

abbrev pub speed_words : Option Speed → List ℕ
speed_words s = present 6 unit_words s

-- 3 to 14
abbrev pub body_words : Vtg → List ℕ
body_words b = short_words b.course ++ speed_words b.speed

abbrev pub vtg_words : Sentence Vtg → List ℕ
vtg_words v = 8 ∷ (padded 2 v.talker ++ (body_words v.body ++ zeros 25))
