-- `unit_letter` meets its contract: whether the letter stands there or not, nothing is kept of it. Assumes nothing.
use native.Mathlib.Omega.{arith}
use mathlib.Core.Path.{◌≡◌}
use Rattle.std.specs.Result.{result_unwrap_or}
use Rattle.fields.proofs.Steps.{letter-or-not}
use Rattle.fields.proofs.letter.unit_letter.Goals as goal

pub returns : goal.returns
returns c =
    let e : c.unwrap_or.result ≡ result_unwrap_or c.byte.result c.args.at = grind arith in
    letter-or-not _ _ c.byte.ensures e
