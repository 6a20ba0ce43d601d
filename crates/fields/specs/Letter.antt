-- Letters: one of a list with its comma, and the letter of a unit, which may be missing.
use Rattle.std.specs.Prelude.{ℕ, List}
use Rattle.text.specs.Bytes.{byte, bytes}
use Rattle.text.specs.Reader.{Reader, ◌>>◌, pure, opt, char, letter_of}
use Rattle.fields.specs.Place.{with_comma}

-- how a position was found: the letters of faa_mode.rs
abbrev pub mode_letters : List ℕ
mode_letters = bytes "ACDEFMNPRSU"

abbrev pub letter_place : List ℕ → Reader ℕ
letter_place letters = with_comma (letter_of letters)

-- opt(char(letter)): nothing is kept of it
unfoldable pub unit_letter : ℕ → Reader (Unit {0})
unit_letter letter = do
  opt (char letter)
  pure tt

unfoldable pub unit_place : ℕ → Reader (Unit {0})
unit_place letter = do
  unit_letter letter
  char (byte ",")
