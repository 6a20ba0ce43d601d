-- For the code, not for a reader of the scope: a line that begins as a sentence does.
use Rattle.std.specs.Prelude.{ℕ, ◌+◌, ◌≤◌, ◌≡◌, true, List, [], ◌∷◌, length, get_or}
use Rattle.text.specs.Bytes.{byte}
use Rattle.frame.specs.Types.{types, listed}
use Rattle.frame.specs.Frame.{max_length, data_from}

-- a line of a sentence's length that begins with `$`, two bytes and the known type `kind`
pub record Headed (s kind : List ℕ) : Type 0 where
  pub long : data_from + 3 ≤ length s
  pub short : length s ≤ max_length
  pub dollar : get_or s 0 0 ≡ byte "$"
  pub letters : kind ≡ get_or s 3 0 ∷ get_or s 4 0 ∷ get_or s 5 0 ∷ []
  pub known : listed types kind ≡ true
