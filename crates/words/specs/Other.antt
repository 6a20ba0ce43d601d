-- The words of a sentence of a known type that we do not read: 4, which says that, talker in 1 and 2, type in 3 to 5.
use Rattle.std.specs.Prelude.{ℕ, List, ◌∷◌, ◌++◌}
use Rattle.answer.specs.Sentence.{OtherSentence}
use Rattle.words.specs.Part.{zeros, padded}

abbrev pub other_words : OtherSentence → List ℕ
other_words o = 4 ∷ (padded 2 o.talker ++ (padded 3 o.kind ++ zeros 34))
