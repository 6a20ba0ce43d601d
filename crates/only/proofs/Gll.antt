-- No second answer of `gll`. Assumes nothing.
use Rattle.std.specs.Prelude.{Result}
use Rattle.std.proofs.Common.{◌≡◌, ℕ, List}
use Rattle.text.specs.Value.{value}
use Rattle.text.specs.Answer.{valued}
use Rattle.text.specs.declared.Fault.{Fault}
use Rattle.gll.specs.Gll.{gll}
use Rattle.gll.specs.Answer.{gll_data}
use Rattle.gll.specs.declared.GllData.{GllData}
use Rattle.only.proofs.Laws.{TellsApart, tells, valued-apart}
use Rattle.only.proofs.Fields.{time-held-apart, position-held-apart, letter-held-apart}

pub gll-apart : TellsApart gll_data
gll-apart = record {
  one = λ e i.
      record {
        position = position-held-apart.one (λ j. (e j).position) i;
        time = time-held-apart.one (λ j. (e j).time) i;
        status = (e i).status;
        mode = letter-held-apart.one (λ j. (e j).mode) i;
      };
}

pub do-parse-gll : (s : List ℕ) {r q : Result GllData Fault} → valued gll_data r ≡ value (gll s) → valued gll_data q ≡ value (gll s) → r ≡ q
do-parse-gll s = tells (valued-apart gll-apart)
