-- The whole answer to a line, in words, and what the calls answer.
use Rattle.std.specs.Prelude.{◌≡◌, ℕ, cond, List, length, nat_le}
use Rattle.answer.specs.Sentence.{answer}
use Rattle.words.specs.Words.{word_count, words, into}

abbrev pub done : ℕ
done = 0

-- nothing was written; no refusal has this number
abbrev pub undone : ℕ
undone = 255

-- `nmea_answer`: a buffer before and after
pub record Answered (line before after : List ℕ) (r : ℕ) : Type 0 where
  pub words : after ≡ into (words (answer line)) before
  pub says : r ≡ cond (nat_le word_count (length before)) done undone
