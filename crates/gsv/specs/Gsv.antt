-- The data of a GSV sentence: satellites in view, four to a sentence.
--
--     3,1,11,03,03,111,00,04,15,270,00,06,01,010,00,13,06,292,00
--     | | |  |  |  |   |  `- three entries more, like the first
--     | | |  |  |  |   `- signal strength, in dB, if it is known
--     | | |  |  |  `- azimuth, in degrees from true north
--     | | |  |  `- elevation, in degrees
--     | | |  `- the satellite
--     | | `- satellites in view, in all sentences of the group together
--     | `- which sentence of the group this is
--     `- sentences of the group
use Rattle.std.specs.Prelude.{ℕ, List, [], ◌∷◌}
use Rattle.std.proofs.Math.Option.{Option, none, some}
use Rattle.text.specs.Bytes.{byte}
use Rattle.text.specs.Reader.{got, Reader, pure, opt, char, ◌>>=◌, ◌>>◌}
use Rattle.text.specs.Number.{number}
use Rattle.gsv.specs.Talker.{Talker}

-- the most that a line can say: n, number and in-view count are u16, a satellite's number u32, the rest of an entry i32
abbrev pub count_max : ℕ
count_max = 65535

abbrev pub id_max : ℕ
id_max = 4294967295

abbrev pub place_max : ℕ
place_max = 2147483647

-- a satellite in view; what may be absent is a whole number too
pub record Satellite : Type 0 where
  pub id : ℕ
  pub elevation : Option ℕ
  pub azimuth : Option ℕ
  pub signal : Option ℕ

-- a closing comma, unless the data ends
unfoldable pub closing : Reader (Unit {0})
closing [] = got tt []
closing (b ∷ l) = char (byte ",") (b ∷ l)

-- a number with its comma
unfoldable pub counted : ℕ → Reader ℕ
counted max = do
  n ← number max
  char (byte ",")
  pure n

-- a number that may be absent, with its comma
unfoldable pub cell : ℕ → Reader (Option ℕ)
cell max = do
  n ← opt (number max)
  char (byte ",")
  pure n

-- parse_gsv_sat_info
unfoldable pub entry : Reader Satellite
entry = do
  id ← counted id_max
  elevation ← cell place_max
  azimuth ← cell place_max
  signal ← opt (number place_max)
  closing
  pure (record { id = id; elevation = elevation; azimuth = azimuth; signal = signal })

-- sentences of the group, which of them this is, satellites in view, and the four entries
pub record Gsv : Type 0 where
  pub count : ℕ
  pub index : ℕ
  pub view : ℕ
  pub first : Option Satellite
  pub second : Option Satellite
  pub third : Option Satellite
  pub fourth : Option Satellite

-- what stands in front of the entries
pub record Head : Type 0 where
  pub count : ℕ
  pub index : ℕ
  pub view : ℕ

abbrev pub head : Reader Head
head = do
  count ← counted count_max
  index ← counted count_max
  view ← counted count_max
  pure (record { count = count; index = index; view = view })

-- an entry that does not match is absent and eats nothing, and so are all after it, which find the same text
abbrev pub with_entries : Head → Reader Gsv
with_entries h = do
  first ← opt entry
  second ← opt entry
  third ← opt entry
  fourth ← opt entry
  pure (record { count = h.count; index = h.index; view = h.view; first = first; second = second; third = third; fourth = fourth })

-- do_parse_gsv
unfoldable pub gsv : Reader Gsv
gsv = do
  h ← head
  with_entries h

abbrev pub keep : Option Satellite → List Satellite → List Satellite
keep none es = es
keep (some s) es = s ∷ es

-- the present entries, in order
abbrev pub present : Gsv → List Satellite
present g = keep g.first (keep g.second (keep g.third (keep g.fourth [])))

-- a GSV sentence: its talker and its data
pub record GsvSentence : Type 0 where
  pub talker : Talker
  pub body : Gsv
