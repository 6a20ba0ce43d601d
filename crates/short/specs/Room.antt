-- What an accepted GSV line of at most 102 bytes has room for.
use Rattle.std.specs.Prelude.{ℕ, ◌+◌, ◌≤◌, ◌≡◌, List, length}
use Rattle.lines.specs.Lines.{Lined}
use Rattle.frame.specs.Frame.{max_length}
use Rattle.gsv.specs.Gsv.{count_max, Satellite, GsvSentence}
use Rattle.answer.specs.Sentence.{answer, is_gsv}
use Rattle.short.specs.Digits.{digits_of}
use Rattle.short.specs.Texts.{AllReadable, entries_text}

-- beside the in-view count and its entries a line has `$`, talker and GSV (6), four commas, n and number of a digit each, `*` and
-- two checksum bytes
abbrev pub beside : ℕ
beside = 15

-- at most four entries, and the bytes for them
pub record Room (v : ℕ) (es : List Satellite) : Type 0 where
  pub view : v ≤ count_max
  pub each : AllReadable es
  pub four : length es ≤ 4
  pub bytes : beside + length (digits_of v) + length (entries_text es) ≤ max_length

-- some line that a log can have is accepted as this sentence
pub record Written (s : GsvSentence) : Type 0 where
  pub line : List ℕ
  pub accepted : answer line ≡ is_gsv s
  pub lined : Lined line
