-- No second answer of `gsa`. Assumes nothing.
use Rattle.std.specs.Prelude.{Option, Result, Ok, Err}
use Rattle.std.proofs.Common.{◌≡◌, ℕ, List, ap}
use Rattle.text.specs.Value.{value}
use Rattle.text.specs.Answer.{held, valued}
use Rattle.text.specs.declared.Fault.{Fault}
use Rattle.gsa.specs.System.{named}
use Rattle.gsa.specs.System as Spec
use Rattle.gsa.specs.Gsa.{gsa}
use Rattle.gsa.specs.Answer.{satellites_of, three_dops, dops_of, gsa_of, settled}
use Rattle.gsa.specs.declared.GsaData.{GsaData}
use Rattle.gsa.specs.declared.Mismatch.{Mismatch}
use Rattle.gsa.proofs.Cells as Cells
use Rattle.only.proofs.Laws.{same, TellsApart, tells, held-apart, held-as-apart, valued-apart}
use Rattle.only.proofs.Decimal.{short-apart}

-- no other cells hold the same satellites
satellites-apart : TellsApart satellites_of
satellites-apart = record { one = Cells.same }

three-dops-apart : TellsApart three_dops
three-dops-apart = record {
  one = λ e i.
      record {
        pdop = short-apart.one (λ j. (e j).pdop) i;
        hdop = short-apart.one (λ j. (e j).hdop) i;
        vdop = short-apart.one (λ j. (e j).vdop) i;
      };
}

dops-apart : TellsApart dops_of
dops-apart = held-as-apart three-dops-apart

pub gsa-apart : TellsApart gsa_of
gsa-apart = record {
  one = λ {x} {y} e i.
      record {
        mode = (e i).mode;
        fix = (e i).fix;
        satellites = satellites-apart.one {x = x.satellites} {y = y.satellites} (λ j. (e j).satellites) i;
        dops = dops-apart.one (λ j. (e j).dops) i;
        system = held-apart.one (λ j. (e j).system) i;
      };
}

settled-one : (r q : Result (Option ℕ) Mismatch) → settled r ≡ settled q → r ≡ q
settled-one (Ok s) (Ok t) e = ap Ok (held-apart.one cc)
settled-one (Ok s) (Err m) e = cc
settled-one (Err m) (Ok s) e = cc
settled-one (Err m) (Err n) e =
    let a : m.0 ≡ n.0 = cc in
    let b : m.1 ≡ n.1 = cc in
    λ i. Err (a i, b i)

settled-apart : TellsApart settled
settled-apart = record { one = λ {x} {y}. settled-one x y }

pub do-parse-gsa : (s : List ℕ) {r q : Result GsaData Fault} → valued gsa_of r ≡ value (gsa s) → valued gsa_of q ≡ value (gsa s) → r ≡ q
do-parse-gsa s = tells (valued-apart gsa-apart)

pub settle : (a b : ℕ) (tail : Option ℕ) {r q : Result (Option ℕ) Mismatch}
    → settled r ≡ Spec.settle (named a b) (held tail)
    → settled q ≡ Spec.settle (named a b) (held tail)
    → r ≡ q
settle a b tail = tells settled-apart

pub with-system : (g : GsaData) (system : Option ℕ) {r q : GsaData}
    → r ≡ record g { system = system }
    → q ≡ record g { system = system }
    → r ≡ q
with-system g system = same
