-- The checksum calculated of an accepted line is the one found in it, since framing compared the two; and `calculate` answers just that.
-- Assumes nothing.
use Prim.Native.Nat.{ℕ}
use native.Mathlib.Omega.{arith}
use mathlib.Core.Path.{◌≡◌, refl, ap, ◌∙◌}
use mathlib.Core.List.{List, [], ◌∷◌, map}
use Rattle.utf8.specs.Utf8.{follow, step, after, ascii}
use Rattle.text.specs.Bytes.{bytes}
use Rattle.text.specs.Reader.{◌>>=◌, pure, or_miss, char, until}
use Rattle.std.specs.Prelude.{Result, Ok, Err}
use Rattle.frame.specs.declared.refusal.Refusal.{Refusal}
use Rattle.frame.specs.Refused.{bad_checksum}
use Rattle.frame.specs.Types.{types, alike, listed}
use Rattle.frame.specs.Checksum.{checksum_from}
use Rattle.frame.specs.Digits.{digit, hex}
use Rattle.frame.specs.Frame.{Parts, accepted, taken, known, sentence_type, checksum_field, sentence, sized, frame}
use Rattle.frame.proofs.OneByte.{was-accepted}
use Rattle.held.specs.Calculated.{Sum, sum_in, comes_to, refused}
use Rattle.held.specs.Answer.{summed}

pub found : (l : List ℕ) (p : Parts) → frame l ≡ accepted p → sum_in (frame l) ≡ comes_to p.checksum
found l p e = ap sum_in e ∙ ap comes_to (was-accepted l p e).sum

only : (r : Result ℕ Refusal) (n : ℕ) → summed r ≡ comes_to n → r ≡ Ok n
only (Ok m) n e = let h : m ≡ n = cc in ap Ok h
only (Err why) n e = let z : ◌≡◌ {A = ℕ} 0 1 = cc in absurd (omega arith)

pub answer-found : (l : List ℕ) (p : Parts) (r : Result ℕ Refusal) → summed r ≡ sum_in (frame l) → frame l ≡ accepted p → r ≡ Ok p.checksum
answer-found l p r h e = only r p.checksum (h ∙ found l p e)

-- a line of 01, and the same with another digit
abbrev Row : Type 0
Row = List ℕ × Sum

abbrev rows : List Row
rows =
    (bytes "$GPGSA,A,1,,,,*32", comes_to 0x32)
    ∷ (bytes "$GPGSA,A,1,,,,*33", refused (bad_checksum 50 51))
    ∷ []

pub worked : map (λ (r : Row). sum_in (frame r.0)) rows ≡ map (λ (r : Row). r.1) rows
unfolding frame sized sentence sentence_type known checksum_field taken listed alike types checksum_from hex digit ◌>>=◌ pure or_miss char until ascii after step follow
worked = refl
