-- How many words each part has, present or not, and where the zeros of each answer begin: what the `impl`s of the code owe.
use Prim.Native.Nat.{ℕ, zero, suc, ◌+◌}
use mathlib.Core.Path.{◌≡◌, refl, ap}
use mathlib.Core.List.{List, [], ◌∷◌}
use mathlib.Core.Option.{Option, none, some}
use lib.ListN.{length, length-append, length-replicate}
use Rattle.decimal.specs.Places.{Short}
use Rattle.fields.specs.Time.{Time}
use Rattle.fields.specs.Date.{Date}
use Rattle.fields.specs.Position.{LatLon}
use Rattle.gsa.specs.Gsa.{Dops, Gsa}
use Rattle.gsa.specs.declared.GsaHead.{GsaHead}
use Rattle.gsv.specs.Gsv.{Satellite, GsvSentence}
use Rattle.rmc.specs.Rmc.{Rmc}
use Rattle.gga.specs.Gga.{Gga}
use Rattle.gll.specs.Gll.{Gll}
use Rattle.vtg.specs.Vtg.{Speed, Vtg}
use Rattle.words.specs.Part.{padded, present, option_words, time_words, date_words, position_words, short_words, dops_words}
use Rattle.words.specs.Rmc.{body_words as rmc_body}
use Rattle.words.specs.Gsa.{row_words, cell_words, body_words as gsa_body}
use Rattle.words.specs.Answer.{row_body}
use Rattle.words.specs.Gsv.{satellite_words, entry_words, body_words as gsv_body}
use Rattle.words.specs.Gga.{body_words as gga_body}
use Rattle.words.specs.Gll.{field_words}
use Rattle.words.specs.Vtg.{speed_words, body_words as vtg_body}

pub padded-long : (n : ℕ) (l : List ℕ) → length (padded n l) ≡ n
padded-long zero l = refl
padded-long (suc n) [] = ap suc (padded-long n [])
padded-long (suc n) (x ∷ l) = ap suc (padded-long n l)

-- a part that may be absent has one word more than where it is not
present-long : {A : Type 0} (n : ℕ) (words : A → List ℕ) → ((x : A) → length (words x) ≡ n) → (o : Option A) → length (present n words o) ≡ suc n
present-long n words long none = ap suc (length-replicate n 0)
present-long n words long (some x) = ap suc (long x)

pub option-two : (o : Option ℕ) → length (option_words o) ≡ 2
option-two = present-long 1 _ (λ _. refl)

pub time-five : (t : Option Time) → length (time_words t) ≡ 5
time-five = present-long 4 _ (λ _. refl)

pub date-four : (d : Option Date) → length (date_words d) ≡ 4
date-four = present-long 3 _ (λ _. refl)

pub position-nine : (p : Option LatLon) → length (position_words p) ≡ 9
position-nine = present-long 8 _ (λ _. refl)

pub short-five : (d : Option Short) → length (short_words d) ≡ 5
short-five = present-long 4 _ (λ _. refl)

pub dops-thirteen : (d : Option Dops) → length (dops_words d) ≡ 13
dops-thirteen = present-long 12 _ (λ _. refl)

pub row-nineteen : (count : ℕ) (cells : List ℕ) → length (row_words count cells) ≡ 19
row-nineteen count cells = ap suc (padded-long 18 _)

pub cells-nineteen : (xs : List ℕ) → length (cell_words xs) ≡ 19
cells-nineteen xs = row-nineteen (length xs) xs

pub satellite-seven : (s : Satellite) → length (satellite_words s) ≡ 7
satellite-seven s = simp (length-append, option-two) refl

pub entry-eight : (s : Option Satellite) → length (entry_words s) ≡ 8
entry-eight = present-long 7 _ satellite-seven

pub speed-seven : (s : Option Speed) → length (speed_words s) ≡ 7
speed-seven = present-long 6 _ (λ _. refl)

pub ruleset lengths = (length-append, padded-long, option-two, time-five, date-four, position-nine, short-five, dops-thirteen, entry-eight, speed-seven)

-- where the zeros begin
pub rmc-body : (b : Rmc) → 3 + length (rmc_body b) ≡ 39
rmc-body b = simp lengths refl

pub gsa-body : (b : Gsa) → 3 + length (gsa_body b) ≡ 38
gsa-body b = simp lengths refl

pub gsa-row : (h : GsaHead) (count : ℕ) (cells : List ℕ) → 3 + length (row_body h count cells) ≡ 38
gsa-row h count cells = simp lengths refl

pub gsv-body : (g : GsvSentence) → 3 + length (gsv_body g) ≡ 39
gsv-body g = simp lengths refl

pub gga-body : (b : Gga) → 3 + length (gga_body b) ≡ 35
gga-body b = simp lengths refl

pub gll-body : (b : Gll) → 3 + length (field_words b) ≡ 19
gll-body b = simp lengths refl

pub vtg-body : (b : Vtg) → 3 + length (vtg_body b) ≡ 15
vtg-body b = simp lengths refl
