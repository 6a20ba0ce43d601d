-- The data of a GSA sentence, as 01 and gsa.rs read it.
use Rattle.std.specs.Prelude.{ℕ, ◌-◌, List, [], ◌∷◌, ◌++◌, length, take, replicate}
use Rattle.std.proofs.Math.Option.{Option, none, some}
use Rattle.text.specs.Bytes.{byte}
use Rattle.text.specs.Reader.{Reader, pure, opt, alt, or_miss, char, one_of, ◌>>=◌, ◌>>◌}
use Rattle.text.specs.Number.{number}
use Rattle.decimal.specs.Places.{Short, short_decimal}
use Rattle.text.specs.Many.{many0, take_while1, all_consuming, one_of3}
use Rattle.gsa.specs.System.{known}

-- how far the satellites' places in the sky spread an error: in space, on the ground, in height
pub record Dops : Type 0 where
  pub pdop : Short
  pub hdop : Short
  pub vdop : Short

-- Which satellites a receiver used, and how well they stand:
--
--     $GPGSA,A,3,16,18,,22,24,,,,,,,,3.6,2.1,2.2,1*hh
--            │ │ └────────┬────────┘ │   │   │   └ system, where it is named here
--            │ │     satellites,     │   │   └ VDOP: dilution in height
--            │ │     or empty        │   └ HDOP: dilution on the ground
--            │ └ fix: 1 none,        └ PDOP: dilution in space
--            │   2 flat, 3 with height
--            └ mode: M set by hand, A by the receiver
--
-- `mode` and `fix` are the bytes that stand there.
pub record Gsa : Type 0 where
  pub mode : ℕ
  pub fix : ℕ
  pub satellites : List ℕ
  pub dops : Option Dops
  pub system : Option ℕ

-- what stands after mode and fix
pub record Tail : Type 0 where
  pub satellites : List ℕ
  pub dops : Option Dops
  pub system : Option ℕ

-- the largest number of an item, that of a system, and how many items are kept
abbrev pub item_max : ℕ
item_max = 4294967295

abbrev pub system_max : ℕ
system_max = 255

abbrev pub kept : ℕ
kept = 18

-- that many cells, which hold these satellites, and zero in each cell after them
abbrev pub row : List ℕ → List ℕ
row xs = xs ++ replicate (kept - length xs) 0

abbrev pub comma : Reader (Unit {0})
comma = char (byte ",")

-- "Unknown systems are absent": and_then(try_from)
abbrev pub if_known : Option ℕ → Option ℕ
if_known none = none
if_known (some n) = known n

-- the end of do_parse_empty_gsa_tail: all_consuming(opt(number))
unfoldable pub last_system : Reader (Option ℕ)
last_system = do
  n ← all_consuming (opt (number system_max))
  pure (if_known n)

-- do_parse_empty_gsa_tail: one or more commas and then nothing or one number
unfoldable pub empty_tail : Reader Tail
empty_tail = do
  take_while1 (byte ",")
  system ← last_system
  pure (record { satellites = []; dops = none; system = system })

-- an item: an optional number and a comma
unfoldable pub item : Reader (Option ℕ)
item = do
  n ← opt (number item_max)
  comma
  pure n

-- the items that are filled
abbrev pub filled : List (Option ℕ) → List ℕ
filled [] = []
filled (none ∷ is) = filled is
filled (some n ∷ is) = n ∷ filled is

-- gsa_prn_fields_parse: items while they match; the first 18, and of these the filled ones
unfoldable pub prn_fields : Reader (List ℕ)
prn_fields = do
  is ← many0 item
  pure (filled (take kept is))

-- a short decimal that is not absent
unfoldable pub dop : Reader Short
dop = do
  d ← short_decimal
  or_miss d

-- three of them, commas between
unfoldable pub dops : Reader Dops
dops = do
  pdop ← dop
  comma
  hdop ← dop
  comma
  vdop ← dop
  pure (record { pdop = pdop; hdop = hdop; vdop = vdop })

-- preceded(char(','), number)
unfoldable pub after_comma : Reader ℕ
after_comma = do
  comma
  number system_max

-- the end of do_parse_gsa_tail: opt(preceded(char(','), number))
unfoldable pub opt_system : Reader (Option ℕ)
opt_system = do
  n ← opt after_comma
  pure (if_known n)

-- do_parse_gsa_tail
unfoldable pub full_tail : Reader Tail
full_tail = do
  satellites ← prn_fields
  ds ← dops
  system ← opt_system
  pure (record { satellites = satellites; dops = some ds; system = system })

-- do_parse_gsa
unfoldable pub gsa : Reader Gsa
gsa = do
  mode ← one_of (byte "M") (byte "A")
  comma
  fix ← one_of3 (byte "1") (byte "2") (byte "3")
  comma
  tail ← alt empty_tail full_tail
  pure (record { mode = mode; fix = fix; satellites = tail.satellites; dops = tail.dops; system = tail.system })
