-- No second answer of `gga`. Assumes nothing.
use Rattle.std.specs.Prelude.{Result}
use Rattle.std.proofs.Common.{◌≡◌, ℕ, List}
use Rattle.text.specs.Value.{value}
use Rattle.text.specs.Answer.{valued}
use Rattle.text.specs.declared.Fault.{Fault}
use Rattle.gga.specs.Gga.{gga}
use Rattle.gga.specs.Answer.{fix_of, height_of, gga_data}
use Rattle.gga.specs.declared.GgaData.{GgaData}
use Rattle.only.proofs.Laws.{TellsApart, tells, held-apart, valued-apart}
use Rattle.only.proofs.Fields.{time-held-apart, position-held-apart, short-held-apart}

fix-apart : TellsApart fix_of
fix-apart = record {
  one = λ e i.
      record {
        time = time-held-apart.one (λ j. (e j).time) i;
        position = position-held-apart.one (λ j. (e j).position) i;
        quality = (e i).quality;
        satellites = held-apart.one (λ j. (e j).satellites) i;
      };
}

height-apart : TellsApart height_of
height-apart = record {
  one = λ e i.
      record {
        hdop = short-held-apart.one (λ j. (e j).hdop) i;
        altitude = short-held-apart.one (λ j. (e j).altitude) i;
        geoid = short-held-apart.one (λ j. (e j).geoid) i;
      };
}

pub gga-apart : TellsApart gga_data
gga-apart = record {
  one = λ e i. record { fix = fix-apart.one (λ j. (e j).fix) i; height = height-apart.one (λ j. (e j).height) i };
}

pub do-parse-gga : (s : List ℕ) {r q : Result GgaData Fault} → valued gga_data r ≡ value (gga s) → valued gga_data q ≡ value (gga s) → r ≡ q
do-parse-gga s = tells (valued-apart gga-apart)
