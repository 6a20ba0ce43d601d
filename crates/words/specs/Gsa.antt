-- The words of a GSA sentence:
--
--     0        2, which says GSA
--     1, 2     talker
--     3        mode
--     4        fix: its letter, `1`, `2` or `3`
--     5        system number, 0 if absent
--     6 to 18  1 if there are DOPs; PDOP, HDOP, VDOP
--     19       count of satellites
--     20 to 37 the satellites
use Rattle.std.specs.Prelude.{ℕ, List, ◌∷◌, ◌++◌, length}
use Rattle.std.proofs.Math.Option.{get_or}
use Rattle.gsa.specs.Gsa.{kept, Gsa}
use Rattle.answer.specs.Sentence.{Sentence}
use Rattle.words.specs.Part.{zeros, padded, dops_words}

-- 19 to 37: a count and cells as they are given, and those of the satellites
abbrev pub row_words : ℕ → List ℕ → List ℕ
row_words count cells = count ∷ padded kept cells

abbrev pub cell_words : List ℕ → List ℕ
cell_words satellites = length satellites ∷ padded kept satellites

-- 3 to 37
abbrev pub body_words : Gsa → List ℕ
body_words b = b.mode ∷ b.fix ∷ get_or b.system 0 ∷ (dops_words b.dops ++ cell_words b.satellites)

abbrev pub gsa_words : Sentence Gsa → List ℕ
gsa_words g = 2 ∷ (padded 2 g.talker ++ (body_words g.body ++ zeros 2))
