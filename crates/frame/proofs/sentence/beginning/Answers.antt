-- With a letter of the match in its first place, whether a type is in the list computes to whether it is in the part that the arm names;
-- with any other letter it is like no type of the list. Assumes nothing.
use mathlib.Core.Path.{refl}
use borrow.Author.Rules.{rules}
use borrow.Author.Tests.{ne_eqb}
use Rattle.text.specs.Bytes.{byte}
use Rattle.frame.specs.Types.{types, alike, listed}
use Rattle.frame.proofs.sentence.beginning.Goals as goal

pub returns-in-65 : goal.returns-in-65
unfolding alike listed types
returns-in-65 c = rw c.in-65.is (λ b d. refl)

pub returns-in-66 : goal.returns-in-66
unfolding alike listed types
returns-in-66 c = rw c.in-66.is (λ b d. refl)

pub returns-in-68 : goal.returns-in-68
unfolding alike listed types
returns-in-68 c = rw c.in-68.is (λ b d. refl)

pub returns-in-71 : goal.returns-in-71
unfolding alike listed types
returns-in-71 c = rw c.in-71.is (λ b d. refl)

pub returns-in-72 : goal.returns-in-72
unfolding alike listed types
returns-in-72 c = rw c.in-72.is (λ b d. refl)

pub returns-in-77 : goal.returns-in-77
unfolding alike listed types
returns-in-77 c = rw c.in-77.is (λ b d. refl)

pub returns-in-82 : goal.returns-in-82
unfolding alike listed types
returns-in-82 c = rw c.in-82.is (λ b d. refl)

pub returns-in-84 : goal.returns-in-84
unfolding alike listed types
returns-in-84 c = rw c.in-84.is (λ b d. refl)

pub returns-in-86 : goal.returns-in-86
unfolding alike listed types
returns-in-86 c = rw c.in-86.is (λ b d. refl)

pub returns-in-87 : goal.returns-in-87
unfolding alike listed types
returns-in-87 c = rw c.in-87.is (λ b d. refl)

pub returns-in-90 : goal.returns-in-90
unfolding alike listed types
returns-in-90 c = rw c.in-90.is (λ b d. refl)

pub returns-in_default : goal.returns-in_default
unfolding alike listed types
returns-in_default c =
    let a = c.args.a in
    λ b d. rw (
      ne_eqb a (byte "A") (search rules),
      ne_eqb a (byte "B") (search rules),
      ne_eqb a (byte "D") (search rules),
      ne_eqb a (byte "G") (search rules),
      ne_eqb a (byte "H") (search rules),
      ne_eqb a (byte "M") (search rules),
      ne_eqb a (byte "R") (search rules),
      ne_eqb a (byte "T") (search rules),
      ne_eqb a (byte "V") (search rules),
      ne_eqb a (byte "W") (search rules),
      ne_eqb a (byte "Z") (search rules),
    ) refl
