-- Every line is blank, accepted or refused, and only one of them: so the three counts add to the lines. Assumes nothing.
use Prim.Native.Nat.{◌+◌}
use native.Mathlib.Omega.{arith}
use mathlib.Core.Path.{◌≡◌, refl}
use mathlib.Core.List.{List, [], ◌∷◌}
use lib.ListN.{length}
use Rattle.answer.specs.Sentence.{is_rmc, is_gsa, is_gsv, is_gga, is_gll, is_vtg, is_other, is_refused}
use Rattle.fed.specs.Line.{LogLine, blank, read, is_blank, is_accepted, is_refusal}
use Rattle.fed.specs.Fed.{once_if, how_many}

pub one-of-three : (s : LogLine) → once_if (is_blank s) + once_if (is_accepted s) + once_if (is_refusal s) ≡ 1
one-of-three blank = refl
one-of-three (read (is_rmc r)) = refl
one-of-three (read (is_gsa g)) = refl
one-of-three (read (is_gsv s)) = refl
one-of-three (read (is_gga g)) = refl
one-of-three (read (is_gll g)) = refl
one-of-three (read (is_vtg v)) = refl
one-of-three (read (is_other k)) = refl
one-of-three (read (is_refused r)) = refl

-- THE THEOREM
pub every-line : (ss : List LogLine) → how_many is_blank ss + how_many is_accepted ss + how_many is_refusal ss ≡ length ss
every-line [] = refl
every-line (s ∷ ss) = let e = one-of-three s in let ih = every-line ss in omega arith
