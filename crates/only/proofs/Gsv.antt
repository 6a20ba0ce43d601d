-- No second answer of `gsv`. Assumes nothing.
use Rattle.std.specs.Prelude.{Option, Result}
use Rattle.std.proofs.Common.{◌≡◌, ℕ, List, drop, refl}
use Rattle.text.specs.Value.{is, value}
use Rattle.text.specs.Answer.{held_as, seen, valued, Finds}
use Rattle.text.specs.declared.Fault.{Fault}
use Rattle.gsv.specs.Talker.{talker_of, letters_of, system_of, system_number}
use Rattle.gsv.specs.Gsv.{head, with_entries, gsv}
use Rattle.gsv.specs.Answer.{talker, gnss, satellite, slot, head_of, gsv_data, gsv_sentence}
use Rattle.gsv.specs.declared.GsvTalker.{GsvTalker}
use Rattle.gsv.specs.declared.GsvTalker.TheVariants.{Ga, Gp, Gl, Bd, Gb, Gi, Gq, Pq, Qz}
use Rattle.gsv.specs.declared.GsvHead.{GsvHead}
use Rattle.gsv.specs.declared.GsvData.{GsvData}
use Rattle.gsv.specs.declared.GnssType.{GnssType}
use Rattle.gsv.specs.declared.GnssType.TheVariants.{Beidou, Galileo, Gps, Glonass, NavIC, Qzss}
use Rattle.only.proofs.Laws.{same, TellsApart, tells, held-apart, held-as-apart, seen-apart, valued-apart, finds, always-is}

talker-one : (r q : GsvTalker) → talker r ≡ talker q → r ≡ q
talker-one Ga Ga e = refl
talker-one Gp Gp e = refl
talker-one Gl Gl e = refl
talker-one Bd Bd e = refl
talker-one Gb Gb e = refl
talker-one Gi Gi e = refl
talker-one Gq Gq e = refl
talker-one Pq Pq e = refl
talker-one Qz Qz e = refl
talker-one r q e = cc

pub talker-apart : TellsApart talker
talker-apart = record { one = λ {x} {y}. talker-one x y }

system-one : (r q : GnssType) → gnss r ≡ gnss q → r ≡ q
system-one Gps Gps e = refl
system-one Glonass Glonass e = refl
system-one Galileo Galileo e = refl
system-one Beidou Beidou e = refl
system-one Qzss Qzss e = refl
system-one NavIC NavIC e = refl
system-one r q e = cc

pub system-apart : TellsApart gnss
system-apart = record { one = λ {x} {y}. system-one x y }

satellite-apart : TellsApart satellite
satellite-apart = record {
  one = λ e i.
      record {
        id = (e i).id;
        elevation = held-apart.one (λ j. (e j).elevation) i;
        azimuth = held-apart.one (λ j. (e j).azimuth) i;
        signal = held-apart.one (λ j. (e j).signal) i;
      };
}

slot-apart : TellsApart slot
slot-apart = held-as-apart satellite-apart

pub head-apart : TellsApart head_of
head-apart = record { one = λ e i. record { count = (e i).count; index = (e i).index; view = (e i).view } }

pub gsv-apart : TellsApart gsv_data
gsv-apart = record {
  one = λ e i.
      record {
        count = (e i).count;
        index = (e i).index;
        view = (e i).view;
        first = slot-apart.one (λ j. (e j).first) i;
        second = slot-apart.one (λ j. (e j).second) i;
        third = slot-apart.one (λ j. (e j).third) i;
        fourth = slot-apart.one (λ j. (e j).fourth) i;
      };
}

pub talker-of : (a b : ℕ) {r q : Option GsvTalker} → held_as talker r ≡ talker_of a b → held_as talker q ≡ talker_of a b → r ≡ q
talker-of a b = tells (held-as-apart talker-apart)

pub letters-of : (t : GsvTalker) {r q : List ℕ} → r ≡ letters_of (talker t) → q ≡ letters_of (talker t) → r ≡ q
letters-of t = same

pub gnss-type : (t : GsvTalker) {r q : GnssType} → gnss r ≡ system_of (talker t) → gnss q ≡ system_of (talker t) → r ≡ q
gnss-type t = tells system-apart

pub system-number : (g : GnssType) {r q : ℕ} → r ≡ system_number (gnss g) → q ≡ system_number (gnss g) → r ≡ q
system-number g = same

pub do-parse-head : (s : List ℕ) {r q : Result (GsvHead × ℕ) Fault} → Finds s 0 head (seen head_of) r → Finds s 0 head (seen head_of) q → r ≡ q
do-parse-head s = finds (seen-apart head-apart)

pub with-entries : (s : List ℕ) (at : ℕ) (h : GsvHead) {r q : GsvData}
    → is (gsv_data r) ≡ value (with_entries (head_of h) (drop at s))
    → is (gsv_data q) ≡ value (with_entries (head_of h) (drop at s))
    → r ≡ q
with-entries s at h = always-is gsv-apart

pub do-parse-gsv : (s : List ℕ) {r q : Result GsvData Fault} → valued gsv_data r ≡ value (gsv s) → valued gsv_data q ≡ value (gsv s) → r ≡ q
do-parse-gsv s = tells (valued-apart gsv-apart)

-- a record of the two
pub gsv-record-apart : TellsApart gsv_sentence
gsv-record-apart = record {
  one = λ e i. record { talker = talker-apart.one (λ j. (e j).talker) i; «data» = gsv-apart.one (λ j. (e j).body) i };
}
