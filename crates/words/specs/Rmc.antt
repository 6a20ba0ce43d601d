-- The words of an RMC sentence:
--
--     0        1, which says RMC
--     1, 2     talker
--     3 to 7   1 if there is a time; hour, minute, second, nanosecond
--     8        status of the fix
--     9 to 17  1 if there is a position; latitude; longitude
--     18 to 22 1 if there is a speed; the speed
--     23 to 27 1 if there is a course; the course
--     28 to 31 1 if there is a date; year, month, day
--     32 to 36 1 if there is a variation; the variation
--     37       mode, 0 if absent
--     38       navigational status, 0 if absent
use Rattle.std.specs.Prelude.{ℕ, List, [], ◌∷◌, ◌++◌}
use Rattle.std.proofs.Math.Option.{get_or}
use Rattle.rmc.specs.Rmc.{Fix, Motion, Ending, Rmc}
use Rattle.answer.specs.Sentence.{Sentence}
use Rattle.words.specs.Part.{zeros, padded, time_words, position_words, short_words, date_words}

-- 3 to 17
abbrev pub fix_words : Fix → List ℕ
fix_words f = time_words f.time ++ (f.status ∷ position_words f.position)

-- 18 to 31
abbrev pub motion_words : Motion → List ℕ
motion_words m = short_words m.speed ++ (short_words m.course ++ date_words m.date)

-- 32 to 38
abbrev pub ending_words : Ending → List ℕ
ending_words e =
    short_words e.variation ++ (get_or e.letters.mode 0 ∷ get_or e.letters.status 0 ∷ [])

-- 3 to 38
abbrev pub body_words : Rmc → List ℕ
body_words b = fix_words b.fix ++ (motion_words b.motion ++ ending_words b.ending)

abbrev pub rmc_words : Sentence Rmc → List ℕ
rmc_words r = 1 ∷ (padded 2 r.talker ++ (body_words r.body ++ zeros 1))
