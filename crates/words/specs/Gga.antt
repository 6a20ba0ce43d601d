-- The words of a GGA sentence:
--
--     0        6, which says GGA
--     1, 2     talker
--     3 to 7   1 if there is a time; hour, minute, second, nanosecond
--     8 to 16  1 if there is a position; latitude; longitude
--     17       fix: its digit, `0` to `8`
--     18, 19   1 if there is a count of satellites; the count
--     20 to 24 1 if there is an HDOP; the HDOP
--     25 to 29 1 if there is an altitude; the altitude
--     30 to 34 1 if there is a height of the geoid; the height
use Rattle.std.specs.Prelude.{ℕ, List, ◌∷◌, ◌++◌}
use Rattle.gga.specs.Gga.{Fix, Height, Gga}
use Rattle.answer.specs.Sentence.{Sentence}
use Rattle.words.specs.Part.{zeros, padded, option_words, time_words, position_words, short_words}

-- 3 to 19
abbrev pub fix_words : Fix → List ℕ
fix_words f = time_words f.time ++ (position_words f.position ++ (f.quality ∷ option_words f.satellites))

-- 20 to 34
abbrev pub height_words : Height → List ℕ
height_words h = short_words h.hdop ++ (short_words h.altitude ++ short_words h.geoid)

-- 3 to 34
abbrev pub body_words : Gga → List ℕ
body_words b = fix_words b.fix ++ height_words b.height

abbrev pub gga_words : Sentence Gga → List ℕ
gga_words g = 6 ∷ (padded 2 g.talker ++ (body_words g.body ++ zeros 5))
