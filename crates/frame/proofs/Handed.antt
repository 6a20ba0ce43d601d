-- What a `?` returns where it hands an error on, as it stands or as the refusal that it becomes. Assumes nothing.
use mathlib.Core.Path.{◌≡◌, ap}
use Rattle.std.specs.Prelude.{Result, Ok, Err, IsErr, IsErrAnd}

pub handed : {T E : Type 0} (r : Result T E) {e : E} → IsErr r × IsErrAnd r (λ x. x ≡ e) → r ≡ Err e
handed (Ok v) (a, b) = absurd b
handed (Err x) (a, b) = ap Err b
