-- A type that is one of the six is in the list, as the list computes. Assumes nothing.
use native.Mathlib.Omega.{arith}
use mathlib.Core.Path.{◌≡◌, refl, ◌∙◌}
use mathlib.Core.Bool.{true}
use Rattle.text.specs.Bytes.{byte, bytes}
use Rattle.frame.specs.Types.{types, alike, listed}
use Rattle.frame.proofs.Texts.{lettered}
use Rattle.frame.proofs.sentence.is_read.Goals as goal

pub returns-in-71 : goal.returns-in-71
unfolding types listed alike
returns-in-71 c e =
    let known : listed types (bytes "GSV") ≡ true = refl in
    lettered types c.args.kind (byte "G") (byte "S") (byte "V") (omega arith) (omega arith) (omega arith) ∙ known

pub returns-in-71-2 : goal.returns-in-71-2
unfolding types listed alike
returns-in-71-2 c e =
    let known : listed types (bytes "GSA") ≡ true = refl in
    lettered types c.args.kind (byte "G") (byte "S") (byte "A") (omega arith) (omega arith) (omega arith) ∙ known

pub returns-in-71-3 : goal.returns-in-71-3
unfolding types listed alike
returns-in-71-3 c e =
    let known : listed types (bytes "GGA") ≡ true = refl in
    lettered types c.args.kind (byte "G") (byte "G") (byte "A") (omega arith) (omega arith) (omega arith) ∙ known

pub returns-in-71-4 : goal.returns-in-71-4
unfolding types listed alike
returns-in-71-4 c e =
    let known : listed types (bytes "GLL") ≡ true = refl in
    lettered types c.args.kind (byte "G") (byte "L") (byte "L") (omega arith) (omega arith) (omega arith) ∙ known

pub returns-in-71-5 : goal.returns-in-71-5
unfolding types listed alike
returns-in-71-5 c e =
    let known : listed types (bytes "RMC") ≡ true = refl in
    lettered types c.args.kind (byte "R") (byte "M") (byte "C") (omega arith) (omega arith) (omega arith) ∙ known

pub returns-in-71-6 : goal.returns-in-71-6
unfolding types listed alike
returns-in-71-6 c e =
    let known : listed types (bytes "VTG") ≡ true = refl in
    lettered types c.args.kind (byte "V") (byte "T") (byte "G") (omega arith) (omega arith) (omega arith) ∙ known
