-- What was read is told as the whole input is.
use Rattle.std.proofs.Common.{◌≡◌, Result, Ok, Err, rules}
use Rattle.std.specs.Result.{MatchResult, IsErrAnd, OnOk}
use Rattle.nmea_log.proofs.Whole.{whole}
use Rattle.nmea_log.proofs.count.Goals as goal

-- what `map_err` hands on was there before
was-ok : {T E D : Type 0} (r : Result T E) (m : Result T D) (x : T) (Q : E → D → Type 0) → MatchResult r (λ y. m ≡ Ok y) (λ e. IsErrAnd m (Q e)) → m ≡ Ok x
    → r ≡ Ok x
was-ok (Ok y) m x Q h k = cc
was-ok (Err e) (Ok y) x Q h k = absurd h
was-ok (Err e) (Err d) x Q h k = cc

still-ok : {T E D : Type 0} {P R : Type 0} (r : Result T E) (m : Result T D) (Q : E → D → Type 0) → MatchResult r (λ y. m ≡ Ok y) (λ e. IsErrAnd m (Q e)) → (P → R)
    → OnOk r P → OnOk m R
still-ok (Ok y) m Q h f p = rw h (f p)
still-ok (Err e) (Ok y) Q h f p = absurd h
still-ok (Err e) (Err d) Q h f p = tt

pub returns-clause-told : goal.returns-clause-told
returns-clause-told g c =
    let read : c.read_log.result ≡ Ok c.in_ok-n.n = was-ok c.read_log.result c.map_err.result c.in_ok-n.n _ c.map_err.ensures.cases c.in_ok-n.was in
    let room = rw read at c.read_log.ensures.room in
    let bytes = rw read at c.read_log.ensures.bytes in
    let end = rw read at c.read_log.ensures.end in
    still-ok c.tell.result c.map_err-2.result _ c.map_err-2.ensures.cases
    (whole _ _ _ _ c.in_ok-n.n c.read_log.new.space (search rules) room bytes end) c.tell.ensures
