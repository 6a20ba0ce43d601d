-- 01, "Framing, in order of checks". Above a reader stands the name that it has in parse.rs.
use Rattle.std.specs.Prelude.{ℕ, ◌+◌, List, [], ◌∷◌, ◌++◌, cond, eqb, leb, length, take, drop}
use Rattle.utf8.specs.Utf8.{utf8, ascii}
use Rattle.text.specs.Bytes.{byte}
use Rattle.text.specs.Reader.{UnknownType, Parse, miss, refuse, got, Reader, pure, or_miss, char, until, ◌>>=◌, ◌>>◌}
use Rattle.frame.specs.Refused.{Refused, bad_utf8, not_ascii, too_long, syntax_error, bad_checksum, faulted}
use Rattle.frame.specs.Types.{types, listed}
use Rattle.frame.specs.Checksum.{checksum}
use Rattle.frame.specs.Digits.{hex}

-- "length at most 102"
abbrev pub max_length : ℕ
max_length = 102

-- where the data begin: after `$`, two talker bytes, three type bytes and a comma
abbrev pub data_from : ℕ
data_from = 7

-- what stands in a line: its data are from `from` up to `to`
pub record Parts : Type 0 where
  pub talker : List ℕ
  pub kind : List ℕ
  pub checksum : ℕ
  pub from : ℕ
  pub to : ℕ
  pub text : List ℕ

-- nom's take: the next `n` bytes, of any kind
unfoldable pub taken : ℕ → Reader (List ℕ)
taken n l = cond (leb n (length l)) (got (take n l) (drop n l)) miss

-- "three not in the list is 5, before what follows is looked at"
unfoldable pub known : List ℕ → Reader (List ℕ)
known k l = cond (listed types k) (got k l) (refuse UnknownType)

-- parse_sentence_type
unfoldable pub sentence_type : Reader (List ℕ)
sentence_type = do
  k ← taken 3
  known k

-- parse_checksum
unfoldable pub checksum_field : Reader ℕ
checksum_field = do
  char (byte "*")
  ds ← taken 2
  or_miss (hex ds)

-- do_parse_nmea_sentence
unfoldable pub sentence : Reader Parts
sentence = do
  char (byte "$")
  talker ← taken 2
  kind ← sentence_type
  char (byte ",")
  text ← until (byte "*")
  found ← checksum_field
  pure (record { talker = talker; kind = kind; checksum = found; from = data_from; to = data_from + length text; text = text })

pub data Outcome : Type 0 where
  accepted : Parts → Outcome
  refused : Refused → Outcome

-- "the XOR of talker, type, comma and data"
abbrev pub sum_over : List ℕ → List ℕ → List ℕ → ℕ
sum_over talker kind text = checksum (talker ++ (kind ++ (byte "," ∷ text)))

abbrev pub calculated : Parts → ℕ
calculated p = sum_over p.talker p.kind p.text

-- "last, the XOR .. against the two digits (6)": `sum` is calculated
abbrev pub compared : ℕ → Parts → Outcome
compared sum p = cond (eqb sum p.checksum) (accepted p) (refused (bad_checksum sum p.checksum))

-- "a missing part is 4"
abbrev pub judged : Parse Parts → Outcome
judged miss = refused syntax_error
judged (refuse f) = refused (faulted f)
judged (got p l) = compared (calculated p) p

-- "length at most 102 (3)"
unfoldable pub sized : List ℕ → Outcome
sized l = cond (leb (length l) max_length) (judged (sentence l)) (refused (too_long (length l)))

-- "whole input valid UTF-8 (1); all bytes below 128 (2)"
unfoldable pub frame : List ℕ → Outcome
frame l = cond (utf8 l) (cond (ascii l) (sized l) (refused not_ascii)) (refused bad_utf8)

-- "the framed answer shows the data as part of the caller's bytes, an empty part on a refusal"
abbrev pub data_in : Outcome → List ℕ
data_in (accepted p) = p.text
data_in (refused x) = []
