-- No second answer of `fields`. Assumes nothing.
use Rattle.std.specs.Prelude.{Option, Result, Ok}
use Rattle.std.proofs.Common.{◌≡◌, ℕ, List}
use Rattle.text.specs.Answer.{Finds, itself, seen, next}
use Rattle.text.specs.declared.Fault.{Fault}
use Rattle.decimal.specs.Answer.{a_short}
use Rattle.decimal.specs.declared.ShortDecimal.{ShortDecimal}
use Rattle.fields.specs.Time.{hms, opt_hms}
use Rattle.fields.specs.Date.{date, opt_date}
use Rattle.fields.specs.Position.{do_lat_lon, lat_lon}
use Rattle.fields.specs.Variation.{do_variation, variation}
use Rattle.fields.specs.Place.{time_place, date_place, position_place, short_place}
use Rattle.fields.specs.Letter.{letter_place, unit_letter, unit_place}
use Rattle.fields.specs.Answer.{time_of, time_held, day_of, date_held, coordinate, both, position_held, short_held, letter_held}
use Rattle.fields.specs.declared.time.TimeOfDay.{TimeOfDay}
use Rattle.fields.specs.declared.date.Day.{Day}
use Rattle.fields.specs.declared.position.Both.{Both}
use Rattle.only.proofs.Laws.{TellsApart, held-apart, held-as-apart, itself-apart, seen-apart, next-apart, finds, always-finds}
use Rattle.only.proofs.Decimal.{short-apart}

time-apart : TellsApart time_of
time-apart = record { one = λ e i. record { hour = (e i).hour; minute = (e i).minute; second = (e i).second; nanosecond = (e i).nanosecond } }

day-apart : TellsApart day_of
day-apart = record { one = λ e i. record { year = (e i).year; month = (e i).month; day = (e i).day } }

coordinate-apart : TellsApart coordinate
coordinate-apart = record { one = λ e i. record { count = (e i).count; letter = (e i).letter; degrees = (e i).degrees } }

both-apart : TellsApart both
both-apart = record {
  one = λ e i. record { lat = coordinate-apart.one (λ j. (e j).lat) i; lon = coordinate-apart.one (λ j. (e j).lon) i };
}

pub time-held-apart : TellsApart time_held
time-held-apart = held-as-apart time-apart

pub date-held-apart : TellsApart date_held
date-held-apart = held-as-apart day-apart

pub position-held-apart : TellsApart position_held
position-held-apart = held-as-apart both-apart

pub short-held-apart : TellsApart short_held
short-held-apart = held-as-apart short-apart

pub letter-held-apart : TellsApart letter_held
letter-held-apart = held-apart

pub parse-hms : (s : List ℕ) (at : ℕ) {r q : Result (TimeOfDay × ℕ) Fault} → Finds s at hms (seen time_of) r → Finds s at hms (seen time_of) q → r ≡ q
parse-hms s at = finds (seen-apart time-apart)

pub opt-hms : (s : List ℕ) (at : ℕ) {r q : Result (Option TimeOfDay × ℕ) Fault} → Finds s at opt_hms (seen time_held) r → Finds s at opt_hms (seen time_held) q → r ≡ q
opt-hms s at = finds (seen-apart time-held-apart)

pub parse-date : (s : List ℕ) (at : ℕ) {r q : Result (Day × ℕ) Fault} → Finds s at date (seen day_of) r → Finds s at date (seen day_of) q → r ≡ q
parse-date s at = finds (seen-apart day-apart)

pub opt-date : (s : List ℕ) (at : ℕ) {r q : Option Day × ℕ} → Finds s at opt_date (seen date_held) (Ok r) → Finds s at opt_date (seen date_held) (Ok q) → r ≡ q
opt-date s at = always-finds (seen-apart date-held-apart)

pub do-parse-lat-lon : (s : List ℕ) (at : ℕ) {r q : Result (Both × ℕ) Fault} → Finds s at do_lat_lon (seen both) r → Finds s at do_lat_lon (seen both) q → r ≡ q
do-parse-lat-lon s at = finds (seen-apart both-apart)

pub parse-lat-lon : (s : List ℕ) (at : ℕ) {r q : Result (Option Both × ℕ) Fault} → Finds s at lat_lon (seen position_held) r → Finds s at lat_lon (seen position_held) q → r ≡ q
parse-lat-lon s at = finds (seen-apart position-held-apart)

pub do-parse-magnetic-variation : (s : List ℕ) (at : ℕ) {r q : Result (ShortDecimal × ℕ) Fault} → Finds s at do_variation (seen a_short) r → Finds s at do_variation (seen a_short) q → r ≡ q
do-parse-magnetic-variation s at = finds (seen-apart short-apart)

pub parse-magnetic-variation : (s : List ℕ) (at : ℕ) {r q : Result (Option ShortDecimal × ℕ) Fault} → Finds s at variation (seen short_held) r → Finds s at variation (seen short_held) q → r ≡ q
parse-magnetic-variation s at = finds (seen-apart short-held-apart)

pub time-place : (s : List ℕ) (at : ℕ) {r q : Result (Option TimeOfDay × ℕ) Fault} → Finds s at time_place (seen time_held) r → Finds s at time_place (seen time_held) q → r ≡ q
time-place s at = finds (seen-apart time-held-apart)

pub date-place : (s : List ℕ) (at : ℕ) {r q : Result (Option Day × ℕ) Fault} → Finds s at date_place (seen date_held) r → Finds s at date_place (seen date_held) q → r ≡ q
date-place s at = finds (seen-apart date-held-apart)

pub position-place : (s : List ℕ) (at : ℕ) {r q : Result (Option Both × ℕ) Fault} → Finds s at position_place (seen position_held) r → Finds s at position_place (seen position_held) q → r ≡ q
position-place s at = finds (seen-apart position-held-apart)

pub short-place : (s : List ℕ) (at : ℕ) {r q : Result (Option ShortDecimal × ℕ) Fault} → Finds s at short_place (seen short_held) r → Finds s at short_place (seen short_held) q → r ≡ q
short-place s at = finds (seen-apart short-held-apart)

pub letter-place : (s : List ℕ) (at : ℕ) (letters : List ℕ) {r q : Result (ℕ × ℕ) Fault} → Finds s at (letter_place letters) itself r → Finds s at (letter_place letters) itself q → r ≡ q
letter-place s at letters = finds itself-apart

pub unit-letter : (s : List ℕ) (at letter : ℕ) {r q : ℕ} → Finds s at (unit_letter letter) next (Ok r) → Finds s at (unit_letter letter) next (Ok q) → r ≡ q
unit-letter s at letter = always-finds next-apart

pub unit-place : (s : List ℕ) (at letter : ℕ) {r q : Result ℕ Fault} → Finds s at (unit_place letter) next r → Finds s at (unit_place letter) next q → r ≡ q
unit-place s at letter = finds next-apart
