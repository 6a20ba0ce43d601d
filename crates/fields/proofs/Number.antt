-- Where the fields of a sentence answer Number: a time at its seconds, a position at its minutes, a variation at its decimal, and a
-- date nowhere. An absent position or variation begins with a comma, and before or at a bad place stands none. No field ends in
-- another fault: the seconds that were read have at most nine decimals. Assumes nothing.
use Prim.Native.Nat.{ℕ, ◌<◌}
use native.Mathlib.Omega.{arith}
use mathlib.Core.Path.{◌≡◌, refl, ap, sym, subst}
use mathlib.Core.Bool.{Bool, true, false, cond}
use mathlib.Core.List.{List, [], ◌∷◌}
use mathlib.Core.Logic.{inl, inr}
use mathlib.Core.Option.{Option, none, some}
use lib.Dec.{leb}
use lib.ListN.{length}
use Rattle.text.specs.Bytes.{byte}
use Rattle.text.specs.Reader.{Fault, Parse, miss, got, Reader, after, ◌>>=◌, ◌>>◌, pure, char, or_miss}
use Rattle.text.specs.Number.{fixed, two_bytes, three_bytes}
use Rattle.text.proofs.Binds.{bind-miss, char-other, unbind, pure-is}
use Rattle.text.proofs.Faults.{Clear, Never, clear-miss, never-bind, never-pure, never-opt, never-or_miss, never-char, never-one_of, never-letter_of, never-fixed}
use Rattle.decimal.specs.Decimal.{text, short, long}
use Rattle.decimal.specs.Places.{Long, long_decimal}
use Rattle.decimal.proofs.Facts.{long-facts}
use Rattle.decimal.proofs.Number.{Place, place, here, OneBad, NumberAt, never, both, first-at, first, optional, apart, short-number, long-number}
use Rattle.fields.specs.Time.{no_sign, clock, hms, opt_hms}
use Rattle.fields.specs.Date.{full_year, date_of, date, opt_date}
use Rattle.fields.specs.Position.{side, latitude, longitude, do_lat_lon, commas, lat_lon}
use Rattle.fields.specs.Variation.{do_variation, variation}
use Rattle.fields.specs.Place.{with_comma}
use Rattle.fields.specs.Letter.{letter_place, unit_letter, unit_place}
use Rattle.fields.proofs.Clock.{clear-clock}

-- the seconds stand behind hour and minute
abbrev pub time_places : List Place
time_places = place long (two_bytes >> (two_bytes >> here)) ∷ []

-- seconds that were read end in no fault
clear-seconds : {f : Fault} (h m : ℕ) (l : List ℕ) (s : Option Long) (n : List ℕ) → long_decimal l ≡ got s n
    → Clear f ((or_miss s >>= (λ d. no_sign d.minus >> clock h m d.size d.decimals)) n)
unfolding ◌>>=◌ or_miss no_sign
clear-seconds h m l none n e = clear-miss
clear-seconds {f} h m l (some d) n e = by d.minus
  where
    by : (t : Bool) → Clear f (after (cond {A = Parse (Unit {0})} t miss (got tt n)) (λ _. clock h m d.size d.decimals))
    by true = clear-miss
    by false = clear-clock h m d.size d.decimals n (long-facts l e).few

never-two : {f : Fault} → Never f two_bytes
never-two = never-fixed 2 255

pub never-comma : {f : Fault} → Never f (char (byte ","))
never-comma = never-char (byte ",")

pub hms-number : NumberAt hms time_places
unfolding hms
hms-number =
    both (never (λ f. never-two))
    (λ h. both (never (λ f. never-two)) (λ m. first-at long-number (λ l s n e f. clear-seconds h m l s n e)))

pub time-number : NumberAt opt_hms time_places
time-number = optional hms-number

pub never-day : {f : Fault} → Never f date
unfolding date
never-day = never-bind never-two (λ d. never-bind never-two (λ m. never-bind never-two (λ y. never-or_miss (date_of d m (full_year y)))))

pub never-date : {f : Fault} → Never f opt_date
never-date = never-opt never-day

-- the minutes of latitude stand behind its degrees, those of longitude behind the latitude, a comma and degrees
abbrev pub position_places : List Place
position_places = place long (two_bytes >> here) ∷ place long (latitude >> (char (byte ",") >> (three_bytes >> here))) ∷ []

side-number : (plus minus deg : ℕ) → NumberAt (side plus minus deg) (place long here ∷ [])
unfolding side
side-number plus minus deg =
    first long-number
    (λ s f. never-bind (never-or_miss s) (λ m. never-bind never-comma (λ _. never-bind (never-one_of plus minus) (λ c. never-pure _))))

do-number : NumberAt do_lat_lon position_places
unfolding do_lat_lon latitude longitude
do-number =
    both (both (never (λ f. never-two)) (side-number (byte "N") (byte "S")))
    (λ lat. both (never (λ f. never-comma))
    (λ _. first (both (never (λ f. never-fixed 3 255)) (side-number (byte "E") (byte "W"))) (λ lon f. never-pure _)))

-- a text that does not begin with a comma
not-first : (l : List ℕ) → ((m : List ℕ) → l ≡ byte "," ∷ m → ⊥) → char (byte ",") l ≡ miss
unfolding char
not-first [] h = refl
not-first (b ∷ l) h = char-other (byte ",") b l (λ e. h l (ap (λ (x : ℕ). x ∷ l) e))

-- a number of two bytes does not
two-comma : (l : List ℕ) {n : ℕ} {k : List ℕ} → two_bytes l ≡ got n k → char (byte ",") l ≡ miss
unfolding fixed
two-comma l {n} {k} e = not-first l (λ m f. unread (leb 2 (length (byte "," ∷ m))) (subst (λ (x : List ℕ). two_bytes x ≡ got n k) f e))
  where
    unread : (t : Bool) → cond t miss miss ≡ got n k → ⊥
    unread true e = let z : ◌≡◌ {A = ℕ} 0 1 = cc in omega arith
    unread false e = let z : ◌≡◌ {A = ℕ} 0 1 = cc in omega arith

no-commas : (l : List ℕ) → OneBad position_places l → commas l ≡ miss
unfolding commas latitude
no-commas l x = bind-miss (char (byte ",")) _ l (by x)
  where
    by : OneBad position_places l → char (byte ",") l ≡ miss
    by (inl b) = two-comma l (unbind two_bytes _ l b.reached).one
    by (inr (inl b)) = two-comma l (unbind two_bytes _ l (unbind latitude _ l b.reached).one).one
    by (inr (inr x)) = absurd x

pub never-commas : {f : Fault} → Never f commas
unfolding commas
never-commas = never-bind never-comma (λ _. never-bind never-comma (λ _. never-comma))

pub position-number : NumberAt lat_lon position_places
unfolding lat_lon
position-number =
    apart
    (λ f. never-bind never-commas (λ _. never-pure none))
    (first do-number (λ p f. never-pure (some p)))
    (λ l x. bind-miss commas _ l (no-commas l x))

-- the variation's decimal stands first
abbrev pub variation_places : List Place
variation_places = place short here ∷ []

magnetic-number : NumberAt do_variation variation_places
unfolding do_variation
magnetic-number =
    first short-number
    (λ d f. never-bind (never-or_miss d)
    (λ v. never-bind never-comma (λ _. never-bind (never-one_of (byte "E") (byte "W")) (λ c. never-pure _))))

-- a text at a place does not begin with a comma
text-comma : (l : List ℕ) → 0 < length (text l) → char (byte ",") l ≡ miss
text-comma l h =
    not-first l
    (λ m f. let z : 0 < length (text (byte "," ∷ m)) = subst (λ (x : List ℕ). 0 < length (text x)) f h in omega arith)

no-comma : (l : List ℕ) → OneBad variation_places l → char (byte ",") l ≡ miss
unfolding here
no-comma l (inl b) = text-comma l (subst (λ (m : List ℕ). 0 < length (text m)) (sym (pure-is b.reached).1) b.no-decimal.stands)
no-comma l (inr x) = absurd x

pub variation-number : NumberAt variation variation_places
unfolding variation
variation-number =
    apart
    (λ f. never-bind never-comma (λ _. never-pure none))
    (first magnetic-number (λ v f. never-pure (some v)))
    (λ l x. bind-miss (char (byte ",")) _ l (no-comma l x))

-- a comma behind a field, a letter and a unit add no fault
module _ {A : Type 0} where
  never-rest : (a : A) {f : Fault} → Never f (char (byte ",") >>= (λ _. pure a))
  never-rest a = never-bind (never-char (byte ",")) (λ _. never-pure a)

  pub never-with : {f : Fault} {r : Reader A} → Never f r → Never f (with_comma r)
  unfolding with_comma
  never-with h = never-bind h (λ a. never-rest a)

  pub with-comma : {r : Reader A} {ps : List Place} → NumberAt r ps → NumberAt (with_comma r) ps
  unfolding with_comma
  with-comma h = first h (λ a f. never-rest a)

module _ {f : Fault} where
  pub never-letter-place : (letters : List ℕ) → Never f (letter_place letters)
  never-letter-place letters = never-with (never-letter_of letters)

  pub never-unit : (letter : ℕ) → Never f (unit_letter letter)
  unfolding unit_letter
  never-unit letter = never-bind (never-opt (never-char letter)) (λ _. never-pure tt)

  pub never-unit-place : (letter : ℕ) → Never f (unit_place letter)
  unfolding unit_place
  never-unit-place letter = never-bind (never-unit letter) (λ _. never-comma)
