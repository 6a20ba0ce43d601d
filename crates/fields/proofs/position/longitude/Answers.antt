-- `longitude` meets its contract: degrees, and a side. Assumes nothing.
use native.Mathlib.Omega.{arith}
use mathlib.Core.Path.{refl}
use Rattle.text.proofs.Places.{took}
use Rattle.text.proofs.Fixed.{fixed-limit}
use Rattle.text.proofs.Finding.{finding}
use Rattle.fields.specs.Position.{longitude}
use Rattle.fields.proofs.position.longitude.Goals as goal

pub returns-in_err-deg : goal.returns-in_err-deg
unfolding longitude
returns-in_err-deg c = search finding depth 14

pub overflow_cast-deg : goal.overflow_cast-deg
overflow_cast-deg c = omega (arith, fixed-limit 3 _ (took c.in_ok-deg.ensures.reads refl).reads)

pub returns : goal.returns
unfolding longitude
returns c = search finding depth 14
