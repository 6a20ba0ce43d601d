-- No second answer of `rmc`. Assumes nothing.
use Rattle.std.specs.Prelude.{Result}
use Rattle.std.proofs.Common.{◌≡◌, ℕ, List}
use Rattle.text.specs.Value.{value}
use Rattle.text.specs.Answer.{valued}
use Rattle.text.specs.declared.Fault.{Fault}
use Rattle.rmc.specs.Rmc.{rmc}
use Rattle.rmc.specs.Answer.{fix_of, motion_of, letters_of, ending_of, rmc_data}
use Rattle.rmc.specs.declared.RmcData.{RmcData}
use Rattle.only.proofs.Laws.{TellsApart, tells, valued-apart}
use Rattle.only.proofs.Fields.{time-held-apart, date-held-apart, position-held-apart, short-held-apart, letter-held-apart}

fix-apart : TellsApart fix_of
fix-apart = record {
  one = λ e i.
      record {
        time = time-held-apart.one (λ j. (e j).time) i;
        status = (e i).status;
        position = position-held-apart.one (λ j. (e j).position) i;
      };
}

motion-apart : TellsApart motion_of
motion-apart = record {
  one = λ e i.
      record {
        speed = short-held-apart.one (λ j. (e j).speed) i;
        course = short-held-apart.one (λ j. (e j).course) i;
        date = date-held-apart.one (λ j. (e j).date) i;
      };
}

letters-apart : TellsApart letters_of
letters-apart = record {
  one = λ e i. record { mode = letter-held-apart.one (λ j. (e j).mode) i; status = letter-held-apart.one (λ j. (e j).status) i };
}

ending-apart : TellsApart ending_of
ending-apart = record {
  one = λ e i. record { variation = short-held-apart.one (λ j. (e j).variation) i; letters = letters-apart.one (λ j. (e j).letters) i };
}

pub rmc-apart : TellsApart rmc_data
rmc-apart = record {
  one = λ e i.
      record {
        fix = fix-apart.one (λ j. (e j).fix) i;
        motion = motion-apart.one (λ j. (e j).motion) i;
        ending = ending-apart.one (λ j. (e j).ending) i;
      };
}

pub do-parse-rmc : (s : List ℕ) {r q : Result RmcData Fault} → valued rmc_data r ≡ value (rmc s) → valued rmc_data q ≡ value (rmc s) → r ≡ q
do-parse-rmc s = tells (valued-apart rmc-apart)
