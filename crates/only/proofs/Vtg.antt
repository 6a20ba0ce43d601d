-- No second answer of `vtg`. Assumes nothing.
use Rattle.std.specs.Prelude.{Result}
use Rattle.std.proofs.Common.{◌≡◌, ℕ, List}
use Rattle.text.specs.Value.{value}
use Rattle.text.specs.Answer.{valued}
use Rattle.text.specs.declared.Fault.{Fault}
use Rattle.vtg.specs.Vtg.{vtg}
use Rattle.vtg.specs.Answer.{a_speed, speed_held, vtg_data}
use Rattle.vtg.specs.declared.VtgData.{VtgData}
use Rattle.only.proofs.Laws.{TellsApart, tells, held-as-apart, valued-apart}
use Rattle.only.proofs.Decimal.{short-apart}
use Rattle.only.proofs.Fields.{short-held-apart}

speed-apart : TellsApart a_speed
speed-apart = record {
  one = λ e i. record { written = short-apart.one (λ j. (e j).written) i; unit = (e i).unit; knots = (e i).knots };
}

speed-held-apart : TellsApart speed_held
speed-held-apart = held-as-apart speed-apart

pub vtg-apart : TellsApart vtg_data
vtg-apart = record {
  one = λ e i. record { course = short-held-apart.one (λ j. (e j).course) i; speed = speed-held-apart.one (λ j. (e j).speed) i };
}

pub do-parse-vtg : (s : List ℕ) {r q : Result VtgData Fault} → valued vtg_data r ≡ value (vtg s) → valued vtg_data q ≡ value (vtg s) → r ≡ q
do-parse-vtg s = tells (valued-apart vtg-apart)
